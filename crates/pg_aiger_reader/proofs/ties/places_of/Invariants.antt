use Rattle.pg_aiger_reader.proofs.Common.{map}
use Rattle.pg_aiger_reader.specs.Views.{kind_in, symbol_in}
use Rattle.pg_aiger_reader.specs.Mirrors.Places.{AreGiven, texts}
use Rattle.pg_aiger_reader.proofs.ties.places_of.Given as goal

abbrev pub invariant-loop-k : goal.invariant-loop-k
invariant-loop-k l = AreGiven (kind_in l.kind) l.count (map symbol_in l.symbols) (texts l.names) l.k l.places.items
