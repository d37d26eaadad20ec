-- The lines from which the game of an automaton is built.
use Rattle.std.specs.Prelude.{ℕ, ◌-◌, ◌/◌, ◌%◌, ◌<◌, ◌==◌, nat_le, if◌then◌else◌, List, [], ◌∷◌, ◌++◌, map, length, Some, None}
use Rattle.std.specs.List.{flat_map, range_with_len}
use Rattle.pg_arena.specs.Lines.{Line}
use Rattle.pg_list_lemmas.specs.Rising.{rising}
use Rattle.pg_hoa_automaton.specs.Automata.{Automaton, letters, next}
use Rattle.pg_synth.specs.Letters.{joined}
use Rattle.pg_synth.specs.AutomatonGames.{input_letters, output_letters, width, place_identifier, place_owner, place_priority, place_name, arrival_of}
use Rattle.pg_synth.specs.declared.place.Place.{Place}
use Rattle.pg_synth.specs.declared.place.Place.TheVariants.{Dead, Arrival, Answer}

-- the place with the number r among those of the state q, and the place with an identifier
abbrev pub place_within : ℕ → ℕ → ℕ → Place
place_within sets q r =
    if r == 0 then Arrival q None else (if nat_le r sets then Arrival q (Some (r - 1)) else Answer q (r - 1 - sets))

abbrev pub place_with : ℕ → ℕ → ℕ → Place
place_with sets width n =
    if n == 0 then Dead else place_within sets ((n - 1) / width) ((n - 1) % width)

abbrev pub place_in : Automaton → ℕ → Place
place_in a n = place_with a.sets (width a) n

-- the identifier of the place to which a letter leads
abbrev pub target : Automaton → ℕ → ℕ → ℕ
target a q letter = place_identifier a (arrival_of a.shape (next a q letter))

-- the identifiers of the places to which a place leads, letter by letter
abbrev pub leads : Automaton → Place → List ℕ
leads a Dead = 0 ∷ []
leads a (Arrival q set) = map (λ i. place_identifier a (Answer q i)) (range_with_len 0 (input_letters a))
leads a (Answer q i) = map (λ o. target a q (joined a.controllable i o)) (range_with_len 0 (output_letters a))

-- the identifiers of the places that a state adds: those to which its letters lead, and its answers
abbrev pub added_by : Automaton → ℕ → List ℕ
added_by a q =
    map (target a q) (range_with_len 0 (letters a))
    ++ map (λ i. place_identifier a (Answer q i)) (range_with_len 0 (input_letters a))

abbrev pub all_identifiers : Automaton → List ℕ
all_identifiers a =
    0 ∷ place_identifier a (Arrival a.start None) ∷ flat_map (added_by a) (range_with_len 0 a.states)

abbrev pub game_identifiers : Automaton → List ℕ
game_identifiers a = rising (all_identifiers a)

-- the number of edges of the vertex with an identifier
abbrev pub edges_of : Automaton → ℕ → ℕ
edges_of a n = length (rising (leads a (place_in a n)))

abbrev pub line_of_place : Automaton → ℕ → Place → Line
line_of_place a n x = record {
  identifier = n;
  priority = place_priority a.shape a.sets x;
  owner = place_owner x;
  successors = rising (leads a x);
  name = Some (place_name x);
}

abbrev pub line_at : Automaton → ℕ → Line
line_at a n = line_of_place a n (place_in a n)

abbrev pub game_lines : Automaton → List Line
game_lines a = map (line_at a) (game_identifiers a)

-- the set of an arrival, if it has one, is below `sets`
abbrev pub HasSetBelow : ℕ → Place → Type 0
HasSetBelow sets Dead = Unit {0}
HasSetBelow sets (Arrival q None) = Unit {0}
HasSetBelow sets (Arrival q (Some s)) = s < sets
HasSetBelow sets (Answer q i) = Unit {0}
