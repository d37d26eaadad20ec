use Rattle.pg_aiger.proofs.Common.{ℕ, ◌+◌, ◌*◌, ◌<◌, get_or}
use Rattle.pg_aiger.proofs.Wholes.{IsGateOf, no_gate}
use Rattle.pg_aiger.proofs.parts.are_gates.Given as goal

abbrev pub invariant-loop-place : goal.invariant-loop-place
invariant-loop-place l = (k : ℕ) → k < l.place → IsGateOf (2 * (l.first + k)) (get_or l.gates k no_gate)
