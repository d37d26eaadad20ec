-- The parts of a game's dual.
use Rattle.pg_arena.proofs.Common.{◌≡◌, ℕ, ◌≤◌, List, [], ◌∷◌, length, map, drop, Option, All, ◌+◌, refl, sym, ap, subst, ◌∙◌, arith}
use Rattle.pg_arena.proofs.Common.{nat_tests, Vec, Global, length-map, All-head, All-tail, All-cons, All-nil, All-map, All-weaker, Entry}
use Rattle.pg_arena.proofs.Common.{GameVertex, IsGame, IsWithinLimits, HasPrioritiesUpTo, dual, dual_vertex, game_dual, limits_dual, Row}
use Rattle.pg_arena.proofs.Common.{row_of, rows_in, place_at, vertex_in, vertices_in, dual_entry, dual_row, IsBuilt, IsBuiltIn, IsOrderly}
use Rattle.pg_arena.proofs.Beside.{rows_dual}

abbrev Names : Type 0
Names = List (Vec ℕ Global)

dual_vertices : (targets : List ℕ) (names : Names) (rows : List Row) → vertices_in targets names (map dual_row rows) ≡ dual (vertices_in targets names rows)
dual_vertices targets names [] = refl
dual_vertices targets names (r ∷ rows) = ap (λ (xs : List GameVertex). dual_vertex (vertex_in targets names r) ∷ xs) (dual_vertices targets names rows)

same_ids : (rows : List Row) → map (λ e. e.identifier) (map dual_row rows) ≡ map (λ e. e.identifier) rows
same_ids [] = refl
same_ids (e ∷ rows) = ap (λ (ids : List ℕ). e.identifier ∷ ids) (same_ids rows)

-- priorities are raised by one
dual_priorities : (game : List GameVertex) → HasPrioritiesUpTo 65535 game → HasPrioritiesUpTo 65536 (dual game)
dual_priorities game small =
    All-map (λ (x : GameVertex). x.priority ≤ 65536) dual_vertex game
    (All-weaker (λ (x : GameVertex). x.priority ≤ 65535) (λ (x : GameVertex). x.priority + 1 ≤ 65536) (λ x le. omega arith) game small)

dual_built : (ids targets : List ℕ) (names : Names) (rows : List Row) → HasPrioritiesUpTo 65535 (vertices_in targets names rows)
    → IsBuilt ids targets names rows → IsBuilt ids targets names (map dual_row rows)
dual_built ids targets names rows small b =
    let is = dual_vertices targets names rows in
    record {
      ranges = All-map (λ r. (r.from ≤ r.to) × (r.to ≤ length targets)) dual_row rows b.ranges;
      named = b.named ∙ sym (same_ids rows);
      game = subst IsGame (sym is) (game_dual (vertices_in targets names rows) b.game);
      limits = subst IsWithinLimits (sym is) (limits_dual (vertices_in targets names rows) b.limits);
      priorities = subst (HasPrioritiesUpTo 65536) (sym is) (dual_priorities (vertices_in targets names rows) small);
    }

pub dual_built_in : {ids targets : List ℕ} {names : Names} {places : List (Option ℕ)} {entries : List Entry}
    → HasPrioritiesUpTo 65535 (vertices_in targets names (rows_in ids places entries)) → IsBuiltIn ids targets names places entries
    → IsBuiltIn ids targets names places (map dual_entry entries)
dual_built_in {ids} {targets} {names} {places} {entries} small b = grind (
  arith,
  nat_tests,
  length-map entries dual_entry,
  rows_dual ids places entries,
  dual_built ids targets names (rows_in ids places entries) small b.built,
)

pub dual_vertices_in : (ids targets : List ℕ) (names : Names) (places : List (Option ℕ)) (entries : List Entry)
    → vertices_in targets names (rows_in ids places (map dual_entry entries)) ≡ dual (vertices_in targets names (rows_in ids places entries))
dual_vertices_in ids targets names places entries = ap (vertices_in targets names) (rows_dual ids places entries)
    ∙ dual_vertices targets names (rows_in ids places entries)

pub small_entries : (ids targets : List ℕ) (names : Names) (places : List (Option ℕ)) (entries : List Entry) → length ids ≡ length entries
    → HasPrioritiesUpTo 65535 (vertices_in targets names (rows_in ids places entries)) → All (λ e. e.priority ≤ 65535) entries
small_entries [] targets names places [] long small = All-nil (λ (e : Entry). e.priority ≤ 65535)
small_entries [] targets names places (e ∷ entries) long small = absurd (omega arith)
small_entries (i ∷ ids) targets names places [] long small = absurd (omega arith)
small_entries (i ∷ ids) targets names places (e ∷ entries) long small =
    let first = vertex_in targets names (row_of i (place_at places 0) e) in
    let rest = vertices_in targets names (rows_in ids (drop 1 places) entries) in
    All-cons (λ (e : Entry). e.priority ≤ 65535) e entries (All-head (λ (x : GameVertex). x.priority ≤ 65535) first rest small)
    (small_entries ids targets names (drop 1 places) entries (omega arith) (All-tail (λ (x : GameVertex). x.priority ≤ 65535) first rest small))

pub small_vertices : (targets vertices : List ℕ) (names : Names) (rows : List Row) → All IsOrderly (vertices_in targets names rows)
    → HasPrioritiesUpTo 65535 (vertices_in vertices names rows)
small_vertices targets vertices names [] orderly = All-nil (λ (x : GameVertex). x.priority ≤ 65535)
small_vertices targets vertices names (e ∷ rows) orderly =
    grind (
      arith,
      nat_tests,
      All-head IsOrderly (vertex_in targets names e) (vertices_in targets names rows) orderly,
      small_vertices targets vertices names rows (All-tail IsOrderly (vertex_in targets names e) (vertices_in targets names rows) orderly),
    )
