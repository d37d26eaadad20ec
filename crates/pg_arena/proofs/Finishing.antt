-- The game that sorted entries make is the game of the lines.
use Rattle.pg_arena.proofs.Common.{Option, ◌≡◌, ℕ, ◌+◌, ◌-◌, ◌≤◌, ◌<◌, List, [], ◌∷◌, length, get_or, take, drop, map, refl, sym, ap, subst}
use Rattle.pg_arena.proofs.Common.{◌∙◌, arith, inl, inr, All, slice_range, slice_index, Contains, nat_tests, flat_map, IsPermutation}
use Rattle.pg_arena.proofs.Common.{IsStrictlyIncreasing, Vec, Global, cases_lt, take-map, drop-map, length-map, get_or-map, get_or_past}
use Rattle.pg_arena.proofs.Common.{All-head, All-tail, All-cons, All-nil, All-take, All-drop, All-contains, All-get_or, All-weaker}
use Rattle.pg_arena.proofs.Common.{sum_by-cons, length-flat_map, IsPermutation-map, length_permutation, All-permutation}
use Rattle.pg_arena.proofs.Common.{sum_by-IsPermutation, sorted_from_strictly_increasing, non_decreasing_from_sorted, GameVertex, IsGame}
use Rattle.pg_arena.proofs.Common.{identifiers, identifier, successors, edge_count, nowhere, Line, IsGameOf, line_of, Entry, Row, rows_in}
use Rattle.pg_arena.proofs.Common.{vertex_in, vertices_in, AreWithin, IsOrderly, AreKept, AreKeptIn, IsBuilt, AreLinked}
use Rattle.std.proofs.Math.ListN.{get_or-map as get_or-map_at}
use Rattle.pg_arena.proofs.Beside.{rows_named, rows_long}
use Rattle.pg_arena.proofs.Dualling.{small_vertices}

abbrev Names : Type 0
Names = List (Vec ℕ Global)

-- ---- what stands once the vertices stand by rising identifier

pub record IsReady (lines : List Line) (ids targets : List ℕ) (names : Names) (sorted : List Row) : Type 0 where
  pub listed : ids ≡ map (λ e. e.identifier) sorted
  pub rising : IsStrictlyIncreasing ids
  pub same : IsPermutation lines (vertices_in targets names sorted)
  pub ranges : AreWithin targets sorted
  pub orderly : All IsOrderly (vertices_in targets names sorted)
  pub laid : targets ≡ flat_map (λ line. line.successors) lines
  pub few : length ids ≤ 1048576
  pub few_edges : length targets ≤ 8388608

pub ready : (lines : List Line) (before ids targets : List ℕ) (names : Names) (rows sorted : List Row) → vertices_in targets names rows ≡ lines
    → AreKept before targets names rows → IsPermutation rows sorted → ids ≡ map (λ e. e.identifier) sorted → IsStrictlyIncreasing ids
    → IsReady lines ids targets names sorted
ready lines before ids targets names rows sorted view kept order listed rising =
    let moved : IsPermutation (vertices_in targets names rows) (vertices_in targets names sorted) =
    IsPermutation-map (vertex_in targets names) rows sorted order in
    record {
      listed = listed;
      rising = rising;
      same = subst (λ (ls : List Line). IsPermutation ls (vertices_in targets names sorted)) view moved;
      ranges = All-permutation (λ e. (e.from ≤ e.to) × (e.to ≤ length targets)) rows sorted order kept.ranges;
      orderly = All-permutation IsOrderly (vertices_in targets names rows) (vertices_in targets names sorted) moved kept.orderly;
      laid = kept.laid ∙ ap (flat_map (λ (line : Line). line.successors)) view;
      few = omega (arith, length_permutation rows sorted order, ap length listed, length-map sorted (λ (e : Row). e.identifier), kept.few_vertices);
      few_edges = kept.few_edges;
    }

pub ready_in : {lines : List Line} {before targets : List ℕ} {names : Names} {places : List (Option ℕ)} {entries : List Entry} (ids : List ℕ)
    (other : List (Option ℕ)) (sorted : List Entry) → vertices_in targets names (rows_in before places entries) ≡ lines
    → AreKeptIn before targets names places entries → IsPermutation (rows_in before places entries) (rows_in ids other sorted) → length ids ≡ length sorted
    → IsStrictlyIncreasing ids
    → IsReady lines ids targets names (rows_in ids other sorted)
ready_in {lines} {before} {targets} {names} {places} {entries} ids other sorted view kept order long rising =
    grind (
      arith,
      nat_tests,
      ready lines before ids targets names (rows_in before places entries)
          (rows_in ids other sorted) view kept.kept order (sym (rows_named ids other sorted long)) rising,
    )

-- no vertex is lost
pub as_many_ids : {before targets : List ℕ} {names : Names} {places : List (Option ℕ)} {entries : List Entry} (ids : List ℕ) (other : List (Option ℕ))
    (sorted : List Entry) → AreKeptIn before targets names places entries → IsPermutation (rows_in before places entries) (rows_in ids other sorted)
    → length ids ≡ length sorted → length ids ≡ length entries
as_many_ids {before} {targets} {names} {places} {entries} ids other sorted kept order long =
    grind (
      arith,
      nat_tests,
      length_permutation (rows_in before places entries) (rows_in ids other sorted) order,
      rows_long before places entries kept.as_many,
      rows_long ids other sorted long,
    )

-- ---- linked successors

range_map : {A B : Type 0} (f : A → B) (xs : List A) (from to : ℕ) → slice_range (map f xs) from to ≡ map f (slice_range xs from to)
range_map f xs from to = ap (take (to - from)) (drop-map f from xs) ∙ take-map f (to - from) (drop from xs)

linked_range : (ids targets vertices : List ℕ) (from to : ℕ) → AreLinked ids targets vertices
    → AreLinked ids (slice_range targets from to) (slice_range vertices from to)
linked_range ids targets vertices from to linked = (
  sym (range_map (slice_index ids) vertices from to)
      ∙ ap (λ (ts : List ℕ). slice_range ts from to) (linked.0),
  All-take (λ v. v < length ids) (to - from) (drop from vertices)
      (All-drop (λ v. v < length ids) from vertices (linked.1)),
)

at_linked : (ids targets vertices : List ℕ) (k : ℕ) → AreLinked ids targets vertices → k < length vertices
    → get_or targets k 0 ≡ get_or ids (get_or vertices k 0) 0
at_linked ids targets vertices k linked lt = ap (λ (ts : List ℕ). get_or ts k 0) (sym (linked.0)) ∙ get_or-map (slice_index ids) vertices k 0 0 lt

-- vertices rise where their identifiers do
linked_rise : (ids targets vertices : List ℕ) → IsStrictlyIncreasing ids → AreLinked ids targets vertices → IsStrictlyIncreasing targets
    → IsStrictlyIncreasing vertices
linked_rise ids targets vertices up linked rise = λ k lt.
    let long : length targets ≡ length vertices = ap length (sym (linked.0)) ∙ length-map vertices (slice_index ids) in
    let here = at_linked ids targets vertices k linked (omega arith) in
    let next = at_linked ids targets vertices (k + 1) linked lt in
    let order : get_or targets k 0 < get_or targets (k + 1) 0 = rise k (omega arith) in
    let within : get_or vertices k 0 < length ids = All-get_or (λ v. v < length ids) vertices k 0 (omega arith) (linked.1) in
    elim (cases_lt (get_or vertices k 0) (get_or vertices (k + 1) 0)) [
      | inl low ↦ low
      | inr high ↦ (let wrong : get_or ids (get_or vertices (k + 1) 0) 0 ≤ get_or ids (get_or vertices k 0) 0 =
          non_decreasing_from_sorted ids (sorted_from_strictly_increasing ids up) (get_or vertices (k + 1) 0) (get_or vertices k 0) 0 high within in
          absurd (omega arith))
    ]

-- ---- the game of sorted entries

pub identifiers_are : (vertices : List ℕ) (names : Names) (rows : List Row) → identifiers (vertices_in vertices names rows) ≡ map (λ e. e.identifier) rows
identifiers_are vertices names [] = refl
identifiers_are vertices names (e ∷ rows) = ap (λ (ids : List ℕ). e.identifier ∷ ids) (identifiers_are vertices names rows)

-- what is true of each vertex of a game with n vertices
pub record IsSound (n : ℕ) (x : GameVertex) : Type 0 where
  pub goes_on : 0 < length x.successors
  pub rise : IsStrictlyIncreasing x.successors
  pub within : All (λ w. w < n) x.successors

no_edges : (game : List GameVertex) (v : ℕ) → length game ≤ v → successors game v ≡ []
no_edges game v past = ap (λ (x : GameVertex). x.successors) (get_or_past game v nowhere past)

pub game_from_sound : (game : List GameVertex) → 0 < length game → IsStrictlyIncreasing (identifiers game) → All (IsSound (length game)) game → IsGame game
game_from_sound game some rising all = record {
  nonempty = some;
  rising = rising;
  goes_on = λ v lt. (all v nowhere lt).goes_on;
  successors_rise = λ v. elim (cases_lt v (length game)) [
    | inl lt ↦ (all v nowhere lt).rise
    | inr past ↦ subst IsStrictlyIncreasing (sym (no_edges game v past)) (λ k lt. absurd (omega arith))
  ];
  in_range = λ v w edge. elim (cases_lt v (length game)) [
    | inl lt ↦ All-contains (λ w. w < length game) (successors game v) w ((all v nowhere lt).within) edge
    | inr past ↦ (let none : Contains [] w = subst (λ (ns : List ℕ). Contains ns w) (no_edges game v past) edge in let lt = none.1 in absurd (omega arith))
  ];
}

sound_entries : (n : ℕ) (ids targets vertices : List ℕ) (names : Names) (rows : List Row) → length ids ≡ n → IsStrictlyIncreasing ids
    → AreLinked ids targets vertices → All IsOrderly (vertices_in targets names rows) → All (IsSound n) (vertices_in vertices names rows)
sound_entries n ids targets vertices names [] len up linked orderly = All-nil (IsSound n)
sound_entries n ids targets vertices names (e ∷ rows) len up linked orderly =
    let line = All-head IsOrderly (vertex_in targets names e) (vertices_in targets names rows) orderly in
    let rest = All-tail IsOrderly (vertex_in targets names e) (vertices_in targets names rows) orderly in
    let here = linked_range ids targets vertices (e.from) (e.to) linked in
    let long : length (slice_range targets (e.from) (e.to)) ≡ length (slice_range vertices (e.from) (e.to)) = ap length (sym (here.0))
    ∙ length-map (slice_range vertices (e.from) (e.to)) (slice_index ids) in
    All-cons (IsSound n) (vertex_in vertices names e) (vertices_in vertices names rows)
    (record {
      goes_on = omega (arith, line.goes_on);
      rise = linked_rise ids (slice_range targets (e.from) (e.to)) (slice_range vertices (e.from) (e.to)) up here line.rise;
      within = subst (λ (m : ℕ). All (λ w. w < m) (slice_range vertices (e.from) (e.to))) len (here.1);
    })
    (sound_entries n ids targets vertices names rows len up linked rest)

-- ---- the lines of that game

pub map_same : (f g : ℕ → ℕ) (xs : List ℕ) → ((x : ℕ) → f x ≡ g x) → map f xs ≡ map g xs
map_same f g [] h = refl
map_same f g (x ∷ xs) h = rw (h x, map_same f g xs h) refl

pub identifier_is : (game : List GameVertex) (v : ℕ) → identifier game v ≡ slice_index (identifiers game) v
identifier_is game v = sym (get_or-map_at (λ (x : GameVertex). x.identifier) game v nowhere)

line_back : (ids targets vertices : List ℕ) (names : Names) (game : List GameVertex) (e : Row) → identifiers game ≡ ids → AreLinked ids targets vertices
    → line_of game (vertex_in vertices names e) ≡ vertex_in targets names e
line_back ids targets vertices names game e is linked =
    let same : map (identifier game) (slice_range vertices (e.from) (e.to)) ≡ slice_range targets (e.from) (e.to) =
    map_same (identifier game) (slice_index ids) (slice_range vertices (e.from) (e.to)) (λ v. identifier_is game v ∙ ap (λ (i : List ℕ). slice_index i v) is)
    ∙ (linked_range ids targets vertices (e.from) (e.to) linked).0 in
    ap (λ (s : List ℕ). let line : Line = record (vertex_in targets names e) { successors = s } in line) same

lines_back : (ids targets vertices : List ℕ) (names : Names) (game : List GameVertex) (rows : List Row) → identifiers game ≡ ids
    → AreLinked ids targets vertices → map (line_of game) (vertices_in vertices names rows) ≡ vertices_in targets names rows
lines_back ids targets vertices names game [] is linked = refl
lines_back ids targets vertices names game (e ∷ rows) is linked =
    rw (line_back ids targets vertices names game e is linked, lines_back ids targets vertices names game rows is linked) refl

edges_back : (game xs : List GameVertex) → edge_count (map (line_of game) xs) ≡ edge_count xs
edges_back game [] = refl
edges_back game (x ∷ xs) =
    omega (
      arith,
      sum_by-cons (λ (x : GameVertex). length x.successors) (line_of game x) (map (line_of game) xs),
      sum_by-cons
          (λ (x : GameVertex). length x.successors) x xs,
      length-map (x.successors) (identifier game),
      edges_back game xs,
    )

pub finished : {lines : List Line} {ids targets : List ℕ} {names : Names} {sorted : List Row} (vertices : List ℕ) → 0 < length ids
    → IsReady lines ids targets names sorted → AreLinked ids targets vertices → IsGameOf lines (vertices_in vertices names sorted)
finished {lines} {ids} {targets} {names} {sorted} vertices some r linked =
    let game : List GameVertex = vertices_in vertices names sorted in
    let is : identifiers game ≡ ids = identifiers_are vertices names sorted ∙ sym r.listed in
    let count : length ids ≡ length game = ap length (sym is) ∙ length-map game (λ (x : GameVertex). x.identifier) in
    record {
      well = game_from_sound game (omega arith) (subst IsStrictlyIncreasing (sym is) r.rising)
          (sound_entries (length game) ids targets vertices names sorted count r.rising linked r.orderly);
      same = subst (IsPermutation lines) (sym (lines_back ids targets vertices names game sorted is linked)) r.same;
    }

pub built : {lines : List Line} {ids targets : List ℕ} {names : Names} {sorted : List Row} (vertices : List ℕ) → 0 < length ids
    → IsReady lines ids targets names sorted → AreLinked ids targets vertices → IsBuilt ids vertices names sorted
built {lines} {ids} {targets} {names} {sorted} vertices some r linked =
    let game : List GameVertex = vertices_in vertices names sorted in
    let is : identifiers game ≡ ids = identifiers_are vertices names sorted ∙ sym r.listed in
    let count : length ids ≡ length game = ap length (sym is) ∙ length-map game (λ (x : GameVertex). x.identifier) in
    let long : length targets ≡ length vertices = ap length (sym (linked.0)) ∙ length-map vertices (slice_index ids) in
    let back = lines_back ids targets vertices names game sorted is linked in
    record {
      ranges = subst (λ (n : ℕ). All (λ e. (e.from ≤ e.to) × (e.to ≤ n)) sorted) long r.ranges;
      named = r.listed;
      game = (finished vertices some r linked).well;
      limits = record {
        vertices = omega (arith, r.few);
        edges = omega (
          arith,
          r.few_edges,
          edges_back game game,
          ap edge_count back,
          sum_by-IsPermutation (λ (x : GameVertex). length x.successors) lines
              (vertices_in targets names sorted) r.same,
          ap length r.laid,
          length-flat_map (λ (x : GameVertex). x.successors) lines,
        );
      };
      priorities = All-weaker (λ (x : GameVertex). x.priority ≤ 65535) (λ (x : GameVertex). x.priority ≤ 65536)
          (λ x le. omega arith) game (small_vertices targets vertices names sorted r.orderly);
    }
