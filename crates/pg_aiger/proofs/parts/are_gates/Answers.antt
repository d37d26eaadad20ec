use Rattle.pg_aiger.proofs.Common.{arith}
use Rattle.pg_aiger.proofs.Wholes.{gates_by_place, gate_at_place}
use Rattle.pg_aiger.proofs.parts.are_gates.Goals as goal

pub returns-then-not-is_gate_of : goal.returns-then-not-is_gate_of
returns-then-not-is_gate_of c = λ are.
    c.if-not-is_gate_of.ensures (gate_at_place c.args.gates.now c.args.first c.loop-place.place c.loop-place-test.true are)

pub returns : goal.returns
returns c = gates_by_place c.args.gates.now c.args.first (λ k below. c.loop-place.invariant k (omega arith))
