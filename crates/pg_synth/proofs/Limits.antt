-- Whether the game of an automaton is within the limits, by its identifiers.
use Rattle.pg_synth.proofs.Common.{◌≡◌, ℕ, ◌<◌, ◌≤◌, List, length, None, inl, arith, refl, sym, subst, sum_by, GameVertex, IsWithinLimits}
use Rattle.pg_synth.proofs.Common.{Automaton, IsAutomaton, StandsFor, IsGameOfAutomaton, IsSynthGame, edges_of, game_identifiers, Arrival}
use Rattle.pg_synth.proofs.Made.{made}
use Rattle.pg_synth.proofs.Linked.{linked_game, linked_is, vertices_are, edges_are}
use Rattle.pg_synth.proofs.OneGame.{one_game}

abbrev pub IsOver : Automaton → Type 0
IsOver a = (game : List GameVertex) × IsGameOfAutomaton a game × ¬ IsWithinLimits game

pub many_vertices : (a : Automaton) → IsAutomaton a → 1048576 < length (game_identifiers a) → IsOver a
many_vertices a is h =
    (linked_game a, made a (linked_game a) is (linked_is a is), λ limits. omega (arith, limits.vertices, vertices_are a))

pub many_edges : (a : Automaton) → IsAutomaton a → 8388608 < sum_by (edges_of a) (game_identifiers a) → IsOver a
many_edges a is h =
    (linked_game a, made a (linked_game a) is (linked_is a is), λ limits. omega (arith, limits.edges, edges_are a))

in_limits : (a : Automaton) (game : List GameVertex) → IsAutomaton a → IsGameOfAutomaton a game → length (game_identifiers a) ≤ 1048576
    → sum_by (edges_of a) (game_identifiers a) ≤ 8388608 → IsWithinLimits game
in_limits a game is g few_vertices few_edges =
    subst IsWithinLimits (sym (one_game a game (linked_game a) g (made a (linked_game a) is (linked_is a is))))
    (record { vertices = omega (arith, vertices_are a); edges = omega (arith, edges_are a) })

-- the initial vertex is that with its identifier
pub initial_of : (a : Automaton) (game : List GameVertex) → IsGameOfAutomaton a game
    → (v : ℕ) × StandsFor a game v (Arrival a.start None)
initial_of a game g = g.each_place (Arrival a.start None) (inl refl)

pub synth_game : (a : Automaton) (game : List GameVertex) (initial : ℕ) → IsAutomaton a → (g : IsGameOfAutomaton a game)
    → length (game_identifiers a) ≤ 1048576 → sum_by (edges_of a) (game_identifiers a) ≤ 8388608
    → initial ≡ (initial_of a game g).0 → IsSynthGame a game initial
synth_game a game initial is g few_vertices few_edges e = record {
  is_game_of = g;
  limits = in_limits a game is g few_vertices few_edges;
  begins = subst (λ (v : ℕ). StandsFor a game v (Arrival a.start None)) (sym e) (initial_of a game g).1;
}
