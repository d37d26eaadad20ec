use Rattle.pg_aiger_reader.proofs.Common.{map, take}
use Rattle.pg_aiger_reader.specs.Views.{kind_in, symbol_in}
use Rattle.pg_aiger_reader.specs.Mirrors.Places.{IsPlaceOf}
use Rattle.pg_aiger_reader.proofs.ties.place_of.Given as goal

abbrev pub invariant-loop-i : goal.invariant-loop-i
invariant-loop-i l = IsPlaceOf (kind_in l.kind) l.count (map symbol_in (take l.i l.symbols)) l.name l.found
