use Rattle.std.proofs.Common.{map, take}
use Rattle.pg_aiger_reader.specs.Views.{circuit_in, symbols_in}
use Rattle.pg_satisfies_texts.specs.Names.{AreMeant}
use Rattle.pg_satisfies_texts.proofs.names.literals_of.Given as goal

abbrev pub invariant-loop-name : goal.invariant-loop-name
invariant-loop-name l =
    AreMeant (circuit_in l.parts) (symbols_in l.parts) (take l.name-index (map (λ v. v.items) l.names)) l.literals.items
