use Rattle.pg_synth.proofs.Common.{◌≡◌, ◌∷◌, None, flat_map, range_with_len, place_identifier, added_by, Arrival}
use Rattle.pg_synth.proofs.lines.identifiers_of.Given as goal

abbrev pub invariant-loop-state : goal.invariant-loop-state
invariant-loop-state l =
    l.list.items ≡ 0 ∷ place_identifier l.automaton (Arrival l.automaton.start None) ∷ flat_map (added_by l.automaton) (range_with_len 0 l.state)
