use Rattle.pg_aiger_reader.proofs.Common.{◌≡◌, ◌<◌, ℕ, get_or, length, map}
use Rattle.pg_aiger.specs.CircuitText.{Symbol, latch}
use Rattle.pg_aiger_reader.specs.Views.{symbol_in}
use Rattle.pg_aiger_reader.proofs.ties.has_latches_alone.Given as goal

abbrev pub invariant-loop-i : goal.invariant-loop-i
invariant-loop-i l = (k : ℕ) (d : Symbol) → k < l.i → k < length l.symbols → (get_or (map symbol_in l.symbols) k d).kind ≡ latch
