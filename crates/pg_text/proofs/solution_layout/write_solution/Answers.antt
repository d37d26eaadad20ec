use Rattle.pg_text.proofs.Common.{arith, sym, ◌-◌, length, decimal, Appends, identifier}
use Rattle.pg_text.proofs.SolutionPrinting.{answer_push, whole_text}
use Rattle.pg_text.proofs.solution_layout.write_solution.Goals as goal

pub loop-v-preserved : goal.loop-v-preserved
loop-v-preserved g c = answer_push (g.W.Write.contents c.write_all-2.new.self) (g.W.Write.contents c.loop-v.out)
    (g.W.Write.contents c.write_answer.new.out) c.args.game.now c.args.solution.now c.loop-v.v
    (omega arith) c.loop-v.invariant c.in_ok-write_answer.ensures

pub returns-clause-bytes : goal.returns-clause-bytes
returns-clause-bytes g c =
    let number : Appends (g.W.Write.contents c.write_all.new.self) (g.W.Write.contents c.write_number.new.out)
    (decimal (identifier c.args.game.now (length c.args.game.now - 1))) =
    rw (sym c.len-len.ensures.value, sym c.identifier.ensures) c.in_ok-write_number.ensures in
    whole_text (g.W.Write.contents c.args.out.now) (g.W.Write.contents c.write_all.new.self) (g.W.Write.contents c.write_number.new.out)
    (g.W.Write.contents c.write_all-2.new.self) (g.W.Write.contents c.loop-v.out) c.args.game.now c.args.solution.now c.loop-v.v
    (omega arith) c.in_ok-write_all.ensures.bytes number c.in_ok-write_all-2.ensures.bytes c.loop-v.invariant
