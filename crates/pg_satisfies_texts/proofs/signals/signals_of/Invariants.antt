use Rattle.std.proofs.Common.{map, take}
use Rattle.pg_aiger_reader.specs.Views.{symbol_in, circuit_in}
use Rattle.pg_satisfies_texts.specs.Mirrors.Signals.{AreKept}
use Rattle.pg_satisfies_texts.proofs.signals.signals_of.Given as goal

abbrev pub invariant-loop-symbol : goal.invariant-loop-symbol
invariant-loop-symbol l =
    AreKept (circuit_in l.parts) (map symbol_in (take l.symbol-index l.parts.symbols.items)) (map (λ v. v.items) l.names) l.table
