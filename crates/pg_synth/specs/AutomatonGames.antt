-- The game of an automaton: Odd chooses input letters, Even output letters.
use Rattle.std.specs.Prelude.{◌≡◌, ◌↔◌, ℕ, ◌+◌, ◌-◌, ◌*◌, ◌%◌, ◌^◌, ◌<◌, ◌⊎◌, List, ◌++◌, Option, Some, None, length, codes, decimal}
use Rattle.pg_arena.specs.declared.player.Player.{Player}
use Rattle.pg_arena.specs.declared.player.Player.TheVariants.{Even, Odd}
use Rattle.pg_arena.specs.Games.{GameVertex, IsGame, IsEdge, vertex_at}
use Rattle.pg_hoa_automaton.specs.declared.shape.Shape.{Shape}
use Rattle.pg_hoa_automaton.specs.declared.shape.Shape.TheVariants.{MaxEven, MaxOdd, MinEven, MinOdd, Always, Never}
use Rattle.pg_hoa_automaton.specs.Automata.{Step, Automaton, letters, next, deciding}
use Rattle.pg_synth.specs.Letters.{joined, inputs, outputs}
use Rattle.pg_synth.specs.declared.place.Place.{Place}
use Rattle.pg_synth.specs.declared.place.Place.TheVariants.{Dead, Arrival, Answer}

-- ---- places

abbrev pub input_letters : Automaton → ℕ
input_letters a = 2 ^ inputs a.controllable

abbrev pub output_letters : Automaton → ℕ
output_letters a = 2 ^ outputs a.controllable

-- how many identifiers each state has: one for the arrival without a set, one for the arrival with each set, and one for the answer to
-- each input letter
abbrev pub width : Automaton → ℕ
width a = a.sets + 1 + input_letters a

abbrev pub place_identifier : Automaton → Place → ℕ
place_identifier a Dead = 0
place_identifier a (Arrival q None) = 1 + q * width a
place_identifier a (Arrival q (Some s)) = 1 + q * width a + 1 + s
place_identifier a (Answer q i) = 1 + q * width a + a.sets + 1 + i

abbrev pub place_owner : Place → Player
place_owner Dead = Odd
place_owner (Arrival q set) = Odd
place_owner (Answer q i) = Even

-- the priority of an arrival with the set s, of n sets; with the last two shapes there are no sets
abbrev pub set_priority : Shape → ℕ → ℕ → ℕ
set_priority MaxEven n s = s + 2
set_priority MaxOdd n s = s + 3
set_priority MinEven n s = 2 * n + 2 - s
set_priority MinOdd n s = 2 * n + 3 - s
set_priority Always n s = s + 3
set_priority Never n s = s + 3

-- the priority of an arrival without a set: even exactly if the shape accepts when no set recurs, and below those of arrivals with a set
abbrev pub none_priority : Shape → ℕ → ℕ
none_priority MaxEven n = 1
none_priority MaxOdd n = 0
none_priority MinEven n = n % 2
none_priority MinOdd n = (n + 1) % 2
none_priority Always n = 2
none_priority Never n = 1

abbrev pub place_priority : Shape → ℕ → Place → ℕ
place_priority shape n Dead = 1
place_priority shape n (Arrival q None) = none_priority shape n
place_priority shape n (Arrival q (Some s)) = set_priority shape n s
place_priority shape n (Answer q i) = 0

-- the numbers in names are decimal, as in s3, s3/0 and s3:2
abbrev pub place_name : Place → List ℕ
place_name Dead = codes "dead"
place_name (Arrival q None) = codes "s" ++ decimal q
place_name (Arrival q (Some s)) = codes "s" ++ decimal q ++ codes "/" ++ decimal s
place_name (Answer q i) = codes "s" ++ decimal q ++ codes ":" ++ decimal i

-- where a step of the automaton arrives
abbrev pub arrival_of : Shape → Option Step → Place
arrival_of shape None = Dead
arrival_of shape (Some step) = Arrival step.target (deciding shape step.sets)

-- the initial arrival, or one to which some state and letter lead
abbrev pub IsArrival : Automaton → Place → Type 0
IsArrival a x =
    (x ≡ Arrival a.start None)
    ⊎ ((q : ℕ) × (letter : ℕ) × (q < a.states) × (letter < letters a) × (x ≡ arrival_of a.shape (next a q letter)))

-- the places of the game
abbrev pub IsPlaceOf : Automaton → Place → Type 0
IsPlaceOf a Dead = Unit {0}
IsPlaceOf a (Arrival q set) = IsArrival a (Arrival q set)
IsPlaceOf a (Answer q i) = (q < a.states) × (i < input_letters a)

-- from an arrival there is a move for any input letter, and from the answer to it for any output letter
abbrev pub Moves : Automaton → Place → Place → Type 0
Moves a Dead y = y ≡ Dead
Moves a (Arrival q set) y = (i : ℕ) × (i < input_letters a) × (y ≡ Answer q i)
Moves a (Answer q i) y =
    (o : ℕ) × (o < output_letters a) × (y ≡ arrival_of a.shape (next a q (joined a.controllable i o)))

-- ---- the game

-- the vertex v stands for the place
pub record StandsFor (a : Automaton) (game : List GameVertex) (v : ℕ) (x : Place) : Type 0 where
  pub in_game : v < length game
  pub is_place : IsPlaceOf a x
  pub identified : (vertex_at game v).identifier ≡ place_identifier a x
  pub prioritised : (vertex_at game v).priority ≡ place_priority a.shape a.sets x
  pub owned : (vertex_at game v).owner ≡ place_owner x
  pub named : (vertex_at game v).name ≡ Some (place_name x)

-- each place has a vertex, each vertex stands for a place, and the edges are exactly the moves
pub record IsGameOfAutomaton (a : Automaton) (game : List GameVertex) : Type 0 where
  pub is_game : IsGame game
  pub each_place : (x : Place) → IsPlaceOf a x → (v : ℕ) × StandsFor a game v x
  pub each_vertex : (v : ℕ) → v < length game → (x : Place) × StandsFor a game v x
  pub edges : (v w : ℕ) (x : Place) → StandsFor a game v x
      → IsEdge game v w ↔ ((y : Place) × Moves a x y × StandsFor a game w y)
