-- How the vertices of a game are numbered.
use Rattle.std.specs.Prelude.{◌≡◌, ◌^◌, map}
use Rattle.std.specs.List.{range_with_len}
use Rattle.pg_hoa_automaton.specs.Automata.{Automaton, IsAutomaton}
use Rattle.pg_synth.specs.Letters.{joined, inputs, outputs}
use Rattle.pg_synth.specs.AutomatonGames.{width}
use Rattle.pg_synth.specs.declared.layout.Layout.{Layout}

-- each input letter, and each output letter, joined with zero bits for the other part; and the number of identifiers per state
pub record IsLayoutOf (a : Automaton) (layout : Layout) : Type 0 where
  pub automaton : IsAutomaton a
  pub inputs : layout.inputs.items ≡ map (λ i. joined a.controllable i 0) (range_with_len 0 (2 ^ inputs a.controllable))
  pub outputs : layout.outputs.items ≡ map (λ o. joined a.controllable 0 o) (range_with_len 0 (2 ^ outputs a.controllable))
  pub width : layout.width ≡ width a
