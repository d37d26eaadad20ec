use Rattle.pg_aiger.proofs.Common.{◌≡◌, ◌+◌, length, Valuation, Agrees, IsValued}
use Rattle.pg_aiger.proofs.circuit.evaluate.Given as goal

abbrev pub invariant-loop-input : goal.invariant-loop-input
invariant-loop-input l =
    (length l.values.items ≡ 1 + l.input)
    × ((v : Valuation) → IsValued l.inputs l.latches l.gates l.state l.letter v → Agrees l.values.items v)

abbrev pub invariant-loop-latch : goal.invariant-loop-latch
invariant-loop-latch l =
    (length l.values.items ≡ 1 + l.inputs + l.latch)
    × ((v : Valuation) → IsValued l.inputs l.latches l.gates l.state l.letter v → Agrees l.values.items v)

abbrev pub invariant-loop-gate : goal.invariant-loop-gate
invariant-loop-gate l =
    (length l.values.items ≡ 1 + l.inputs + l.latches + l.gate-index)
    × ((v : Valuation) → IsValued l.inputs l.latches l.gates l.state l.letter v → Agrees l.values.items v)
