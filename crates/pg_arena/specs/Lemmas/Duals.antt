-- What is true of a dual. Nothing below adds to its definition.
use Rattle.std.specs.Prelude.{◌≡◌, ℕ, ◌+◌, ◌<◌, List, [], ◌∷◌, length, refl, Contains}
use Rattle.std.proofs.Common.{sym, ap, subst, ◌∙◌, arith, inl, inr}
use Rattle.std.specs.List.Sorted.{IsStrictlyIncreasing}
use Rattle.std.proofs.lemmas.Bool.{cases_lt}
use Rattle.std.proofs.lemmas.List.{length-map, get_or-map, get_or_past}
use Rattle.std.proofs.lemmas.List.Sums.{sum_by-cons}
use Rattle.pg_arena.specs.Games.{GameVertex, IsGame, IsWithinLimits, opponent, vertex_at, nowhere, priority, owner, successors}
use Rattle.pg_arena.specs.Games.{identifiers, edge_count, dual, dual_vertex}

pub length_dual : (game : List GameVertex) → length (dual game) ≡ length game
length_dual game = length-map game dual_vertex

vertex_dual : (game : List GameVertex) (v : ℕ) → v < length game → vertex_at (dual game) v ≡ dual_vertex (vertex_at game v)
vertex_dual game v lt = get_or-map dual_vertex game v nowhere nowhere lt

-- successors are kept also past the last vertex
pub successors_dual : (game : List GameVertex) (v : ℕ) → successors (dual game) v ≡ successors game v
successors_dual game v = elim (cases_lt v (length game)) [
  | inl lt ↦ ap (λ (x : GameVertex). x.successors) (vertex_dual game v lt)
  | inr past ↦
      ap (λ (x : GameVertex). x.successors)
      (get_or_past (dual game) v nowhere (omega (arith, length_dual game)) ∙ sym (get_or_past game v nowhere past))
]

pub priority_dual : (game : List GameVertex) (v : ℕ) → v < length game → priority (dual game) v ≡ priority game v + 1
priority_dual game v lt = ap (λ (x : GameVertex). x.priority) (vertex_dual game v lt)

pub owner_dual : (game : List GameVertex) (v : ℕ) → v < length game → owner (dual game) v ≡ opponent (owner game v)
owner_dual game v lt = ap (λ (x : GameVertex). x.owner) (vertex_dual game v lt)

pub identifiers_dual : (game : List GameVertex) → identifiers (dual game) ≡ identifiers game
identifiers_dual [] = refl
identifiers_dual (x ∷ game) = ap (λ (ids : List ℕ). x.identifier ∷ ids) (identifiers_dual game)

pub edges_dual : (game : List GameVertex) → edge_count (dual game) ≡ edge_count game
edges_dual [] = refl
edges_dual (x ∷ game) = omega (
  arith,
  sum_by-cons (λ (x : GameVertex). length x.successors) (dual_vertex x) (dual game),
  sum_by-cons (λ (x : GameVertex). length x.successors) x game,
  edges_dual game,
)

pub game_dual : (game : List GameVertex) → IsGame game → IsGame (dual game)
game_dual game well = record {
  nonempty = omega (arith, length_dual game, well.nonempty);
  rising = subst IsStrictlyIncreasing (sym (identifiers_dual game)) well.rising;
  goes_on = λ v lt. subst (λ (s : List ℕ). 0 < length s) (sym (successors_dual game v)) (well.goes_on v (omega (arith, length_dual game)));
  successors_rise = λ v. subst IsStrictlyIncreasing (sym (successors_dual game v)) (well.successors_rise v);
  in_range = λ v w edge. (let within = well.in_range v w (subst (λ (s : List ℕ). Contains s w) (successors_dual game v) edge) in
      omega (arith, length_dual game));
}

pub limits_dual : (game : List GameVertex) → IsWithinLimits game → IsWithinLimits (dual game)
limits_dual game within = record {
  vertices = omega (arith, length_dual game, within.vertices);
  edges = omega (arith, edges_dual game, within.edges);
}
