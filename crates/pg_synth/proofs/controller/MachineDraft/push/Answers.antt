use Rattle.std.proofs.Common.{arith}
use Rattle.pg_synth.proofs.Numbering.{inserted, few_numbers, all_below}
use Rattle.pg_synth.proofs.controller.MachineDraft.push.Goals as goal

pub overflow_cast-reply : goal.overflow_cast-reply
overflow_cast-reply c =
    let e = c.in_ok-number.ensures in
    let number = inserted c.args.self.now.states.keys c.insert_full.new.self.keys c.args.target c.in_ok-number.number e.unique e.keys e.within e.stored in
    let few = few_numbers c.insert_full.new.self.keys 65535 e.unique
    (all_below c.args.self.now.states.keys c.insert_full.new.self.keys c.args.target c.in_ok-number.number 65535 number c.requires.states c.requires.target) in
    omega (arith, few, e.within)

pub returns : goal.returns
returns c =
    let e = c.in_ok-number.ensures in (
      c.in_ok-number.number,
      inserted c.args.self.now.states.keys c.insert_full.new.self.keys c.args.target c.in_ok-number.number e.unique e.keys e.within e.stored,
      c.in_ok-push.ensures.items,
    )
