use Rattle.pg_aiger_reader.proofs.Common.{◌<◌, ℕ, get_or, length, map}
use Rattle.pg_aiger.specs.CircuitText.{Symbol}
use Rattle.pg_aiger_reader.specs.Ties.{IsUnknown}
use Rattle.pg_aiger_reader.specs.Mirrors.Places.{texts}
use Rattle.pg_aiger_reader.specs.Views.{kind_in, symbol_in}
use Rattle.pg_aiger_reader.proofs.ties.first_unknown.Given as goal

abbrev pub invariant-loop-i : goal.invariant-loop-i
invariant-loop-i l =
    (k : ℕ) (d : Symbol) → k < l.i → k < length l.symbols
    → ¬ IsUnknown (kind_in l.kind) l.count (texts l.names) (get_or (map symbol_in l.symbols) k d)
