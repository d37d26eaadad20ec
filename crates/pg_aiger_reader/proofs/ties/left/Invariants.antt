use Rattle.pg_aiger_reader.proofs.Common.{◌<◌, ℕ, Contains}
use Rattle.pg_aiger_reader.proofs.ties.left.Given as goal

abbrev pub invariant-loop-p : goal.invariant-loop-p
invariant-loop-p l = (q : ℕ) → q < l.p → Contains l.places q
