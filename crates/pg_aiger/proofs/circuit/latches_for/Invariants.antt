use Rattle.std.proofs.Common.{ℕ, ◌^◌, ◌<◌}
use Rattle.pg_aiger.proofs.circuit.latches_for.Given as goal

abbrev pub invariant-loop-latches : goal.invariant-loop-latches
invariant-loop-latches l = (fewer : ℕ) → fewer < l.latches → 2 ^ fewer < l.states
