-- The game that the lines make is the game of the automaton.
use Rattle.pg_synth.proofs.Common.{◌≡◌, ◌↔◌, ℕ, ◌<◌, List, length, map, sym, subst, ap, ◌∙◌, Contains, get_or_default, Contains-get_or}
use Rattle.pg_synth.proofs.Common.{IsPermutation-sym, Contains-permutation, GameVertex, IsEdge, identifier, successors, vertex_at, nowhere}
use Rattle.pg_synth.proofs.Common.{Line, line_of, lines_of, rising, Automaton, IsAutomaton, place_identifier, IsPlaceOf, Moves, StandsFor}
use Rattle.pg_synth.proofs.Common.{IsGameOfAutomaton, leads, line_at, line_of_place, game_identifiers, game_lines, Place, rising_contains}
use Rattle.pg_synth.proofs.Common.{contains_rising, contains_map, contains_mapped}
use Rattle.pg_arena.specs.Lines as lines
use Rattle.pg_synth.proofs.Places.{known, within_game, moved, listed, only_listed, led, leading}
use Rattle.pg_synth.proofs.Trace.{one_number}

-- the vertex v has the line of the identifier n
abbrev IsAt : Automaton → List GameVertex → ℕ → ℕ → Type 0
IsAt a game v n = line_of game (vertex_at game v) ≡ line_at a n

-- each vertex has the line of a listed identifier, and each line is a vertex's
line_at_vertex : (a : Automaton) (game : List GameVertex) → lines.IsGameOf (game_lines a) game → (v : ℕ) → v < length game
    → (n : ℕ) × Contains (game_identifiers a) n × IsAt a game v n
line_at_vertex a game g v l =
    let here : Contains (lines_of game) (line_of game (vertex_at game v)) =
    contains_mapped (line_of game) game (vertex_at game v) (Contains-get_or game v nowhere l) in
    let p = contains_map (line_at a) (game_identifiers a) (line_of game (vertex_at game v))
    (Contains-permutation (lines_of game) (game_lines a) (line_of game (vertex_at game v)) (IsPermutation-sym (game_lines a) (lines_of game) g.same) here) in
    (p.0, p.1, sym p.2)

vertex_at_line : (a : Automaton) (game : List GameVertex) → lines.IsGameOf (game_lines a) game → (n : ℕ) → Contains (game_identifiers a) n
    → (v : ℕ) × (v < length game) × IsAt a game v n
vertex_at_line a game g n c =
    let here : Contains (lines_of game) (line_at a n) =
    Contains-permutation (game_lines a) (lines_of game) (line_at a n) g.same (contains_mapped (line_at a) (game_identifiers a) n c) in
    let p = contains_map (line_of game) game (line_at a n) here in
    let at : vertex_at game p.1.0 ≡ p.0 = get_or_default game p.1.0 nowhere p.0 p.1.1 ∙ p.1.2 in
    (p.1.0, p.1.1, ap (line_of game) at ∙ p.2)

-- the line of a place's identifier
line_is : (a : Automaton) (x : Place) → IsAutomaton a → IsPlaceOf a x
    → line_at a (place_identifier a x) ≡ line_of_place a (place_identifier a x) x
line_is a x is h = ap (line_of_place a (place_identifier a x)) (known a x (within_game a x is h))

stands : (a : Automaton) (game : List GameVertex) (v : ℕ) (x : Place) → IsAutomaton a → IsPlaceOf a x → v < length game
    → IsAt a game v (place_identifier a x) → StandsFor a game v x
stands a game v x is h l e =
    let is : line_of game (vertex_at game v) ≡ line_of_place a (place_identifier a x) x = e ∙ line_is a x is h in
    record {
      in_game = l;
      is_place = h;
      identified = ap (λ (l : Line). l.identifier) is;
      prioritised = ap (λ (l : Line). l.priority) is;
      owned = ap (λ (l : Line). l.owner) is;
      named = ap (λ (l : Line). l.name) is;
    }

-- a vertex with the identifier of a place stands for it
same_line : (a : Automaton) (game : List GameVertex) (v : ℕ) (x : Place) → lines.IsGameOf (game_lines a) game → v < length game
    → (vertex_at game v).identifier ≡ place_identifier a x → IsAt a game v (place_identifier a x)
same_line a game v x g l e =
    let p = line_at_vertex a game g v l in
    let n : p.0 ≡ place_identifier a x = sym (ap (λ (l : Line). l.identifier) p.2) ∙ e in
    subst (IsAt a game v) n p.2

stands_by : (a : Automaton) (game : List GameVertex) (v : ℕ) (x : Place) → IsAutomaton a → IsPlaceOf a x → lines.IsGameOf (game_lines a) game
    → v < length game → (vertex_at game v).identifier ≡ place_identifier a x → StandsFor a game v x
stands_by a game v x is h g l e = stands a game v x is h l (same_line a game v x g l e)

pub each_place : (a : Automaton) (game : List GameVertex) → IsAutomaton a → lines.IsGameOf (game_lines a) game
    → (x : Place) → IsPlaceOf a x → (v : ℕ) × StandsFor a game v x
each_place a game is g x h =
    let p = vertex_at_line a game g (place_identifier a x) (listed a x h) in
    (p.0, stands a game p.0 x is h p.1 p.2)

each_vertex : (a : Automaton) (game : List GameVertex) → IsAutomaton a → lines.IsGameOf (game_lines a) game
    → (v : ℕ) → v < length game → (x : Place) × StandsFor a game v x
each_vertex a game is g v l =
    let p = line_at_vertex a game g v l in
    let x = only_listed a p.0 p.1 in
    (x.0, stands a game v x.0 is x.1 l (subst (IsAt a game v) (sym x.2) p.2))

-- the identifiers of a vertex's successors
successors_are : (a : Automaton) (game : List GameVertex) (v : ℕ) (x : Place) → IsAutomaton a → lines.IsGameOf (game_lines a) game
    → StandsFor a game v x → map (identifier game) (successors game v) ≡ rising (leads a x)
successors_are a game v x is g s =
    ap (λ (l : Line). l.successors) (same_line a game v x g s.in_game s.identified ∙ line_is a x is s.is_place)

edges : (a : Automaton) (game : List GameVertex) → IsAutomaton a → lines.IsGameOf (game_lines a) game
    → (v w : ℕ) (x : Place) → StandsFor a game v x → IsEdge game v w ↔ ((y : Place) × Moves a x y × StandsFor a game w y)
edges a game is g v w x s = (to, from)
  where
    are : map (identifier game) (successors game v) ≡ rising (leads a x)
    are = successors_are a game v x is g s

    to : IsEdge game v w → (y : Place) × Moves a x y × StandsFor a game w y
    to h =
        let c : Contains (rising (leads a x)) (identifier game w) =
        subst (λ (ns : List ℕ). Contains ns (identifier game w)) are (contains_mapped (identifier game) (successors game v) w h) in
        let p = led a x (identifier game w) (rising_contains (leads a x) (identifier game w) c) in (
          p.0,
          p.1,
          stands_by a game w p.0 is (moved a x p.0 is s.is_place p.1) g (g.well.in_range v w h) (sym p.2),
        )

    from : ((y : Place) × Moves a x y × StandsFor a game w y) → IsEdge game v w
    from (y, m, t) =
        let c : Contains (map (identifier game) (successors game v)) (place_identifier a y) =
        subst (λ (ns : List ℕ). Contains ns (place_identifier a y)) (sym are)
        (contains_rising (leads a x) (place_identifier a y) (leading a x y m)) in
        let p = contains_map (identifier game) (successors game v) (place_identifier a y) c in
        let same : p.0 ≡ w = one_number game g.well p.0 w (g.well.in_range v p.0 p.1) t.in_game (p.2 ∙ sym t.identified) in
        subst (Contains (successors game v)) same p.1

pub made : (a : Automaton) (game : List GameVertex) → IsAutomaton a → lines.IsGameOf (game_lines a) game → IsGameOfAutomaton a game
made a game is g = record {
  is_game = g.well;
  each_place = each_place a game is g;
  each_vertex = each_vertex a game is g;
  edges = edges a game is g;
}
