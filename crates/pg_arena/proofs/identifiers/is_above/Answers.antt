use Rattle.pg_arena.proofs.Common.{length, sym, ltb-true, ltb-false}
use Rattle.pg_arena.proofs.Members.{rises_more, one_rises}
use Rattle.pg_arena.proofs.identifiers.is_above.Goals as goal

pub returns-in-Some : goal.returns-in-Some
returns-in-Some c = λ above.
    rises_more c.args.numbers.now c.args.number c.in-Some.last.now c.requires c.in-Some.ensures.value (ltb-true c.in-Some.last.now c.args.number above)

pub returns-in-None : goal.returns-in-None
returns-in-None c = λ _. one_rises c.args.numbers.now c.args.number (ltb-false 0 (length c.args.numbers.now) (sym c.in-None.ensures.item.0))
