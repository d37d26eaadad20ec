use Rattle.pg_aiger_reader.proofs.Common.{◌≢◌, ◌<◌, ℕ, [], get_or}
use Rattle.pg_aiger_reader.specs.Mirrors.Places.{texts}
use Rattle.pg_aiger_reader.proofs.ties.is_unknown.Given as goal

abbrev pub invariant-loop-k : goal.invariant-loop-k
invariant-loop-k l = (j : ℕ) → j < l.k → get_or (texts l.names) j [] ≢ l.symbol.name.now
