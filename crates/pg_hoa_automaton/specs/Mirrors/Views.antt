-- What contracts see of an automaton.
use Rattle.std.specs.Prelude.{ℕ, Bool, List, map}
use Rattle.std.specs.declared.vec.Vec.{Vec}
use Rattle.std.specs.declared.alloc.Global.{Global}
use Rattle.pg_hoa_automaton.specs.declared.shape.Shape.{Shape}
use Rattle.pg_hoa_automaton.specs.declared.table.Table.{Table}
use Rattle.pg_hoa_automaton.specs.Automata.{Automaton, rows}
use Rattle.pg_hoa_automaton.specs.Mirrors.Tables.{next}

abbrev pub viewed : ℕ → List (Vec ℕ Global) → List Bool → ℕ → Shape → Table → Automaton
viewed start names controllable sets shape table = record {
  states = table.states;
  start = start;
  propositions = map (λ name. name.items) names;
  controllable = controllable;
  sets = sets;
  shape = shape;
  steps = rows (next table) table.states table.letters;
}
