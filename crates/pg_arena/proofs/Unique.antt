-- One list of lines has one game, and lines with a game have no reason against it.
use Rattle.pg_arena.proofs.Common.{◌≡◌, ℕ, ◌<◌, true, false, eqb, List, [], ◌∷◌, length, get_or, map, Result, Ok, Err, refl, sym, ap, subst}
use Rattle.pg_arena.proofs.Common.{◌∙◌, arith, inl, inr, All, slice_index, ◌||◌, Contains, IfOk, IfErr, MatchResult, nat_tests, AllPairs}
use Rattle.pg_arena.proofs.Common.{IsStrictlyIncreasing, cases_lt, length-map, get_or_default, All-head, All-tail, All-from_get_or}
use Rattle.pg_arena.proofs.Common.{Contains-get_or, IsPermutation-sym, length_permutation, Contains-permutation, list_any-IsPermutation}
use Rattle.pg_arena.proofs.Common.{sorted_from_strictly_increasing, below_from_sorted, ArenaFault, OutOfMemory, UnknownSuccessor, NoVertex}
use Rattle.pg_arena.proofs.Common.{GameVertex, IsGame, identifiers, identifier, successors, vertex_at, nowhere, IsEdge, Line, IsGameOf}
use Rattle.pg_arena.proofs.Common.{line_of, lines_of, IsUnknown, is_named, FinishFails, contains_map, contains_mapped, pairs_by, same_order}
use Rattle.pg_arena.proofs.Common.{has, has_contained}
use Rattle.pg_arena.proofs.Finishing.{map_same, identifier_is}

abbrev id : Line → ℕ
id line = line.identifier

-- ---- the lines of a game

lines_named : (game xs : List GameVertex) → map id (map (line_of game) xs) ≡ map (λ x. x.identifier) xs
lines_named game [] = refl
lines_named game (x ∷ xs) = ap (λ (ids : List ℕ). x.identifier ∷ ids) (lines_named game xs)

same_lines_of : (lines : List Line) (game other : List GameVertex) → IsGameOf lines game → IsGameOf lines other → lines_of game ≡ lines_of other
same_lines_of lines game other g o =
    same_order (λ x y. x.identifier < y.identifier) (lines_of game) (lines_of other) (λ x y a b. omega arith) (up game g.well) (up other o.well)
    (λ line c. Contains-permutation lines (lines_of other) line o.same
    (Contains-permutation (lines_of game) lines line (IsPermutation-sym lines (lines_of game) g.same) c))
    (λ line c. Contains-permutation lines (lines_of game) line g.same
    (Contains-permutation (lines_of other) lines line (IsPermutation-sym lines (lines_of other) o.same) c))
  where
    up : (game : List GameVertex) → IsGame game → AllPairs (λ x y. x.identifier < y.identifier) (lines_of game)
    up game well = pairs_by id (lines_of game) (subst IsStrictlyIncreasing (sym (lines_named game game)) well.rising)

-- successors with the same identifiers are the same
same_successors : (ids xs ys : List ℕ) → IsStrictlyIncreasing ids → All (λ v. v < length ids) xs → All (λ v. v < length ids) ys
    → map (slice_index ids) xs ≡ map (slice_index ids) ys → xs ≡ ys
same_successors ids [] [] up a b h = refl
same_successors ids [] (y ∷ ys) up a b h = absurd cc
same_successors ids (x ∷ xs) [] up a b h = absurd cc
same_successors ids (x ∷ xs) (y ∷ ys) up a b h =
    let head : slice_index ids x ≡ slice_index ids y = cc in
    let tail : map (slice_index ids) xs ≡ map (slice_index ids) ys = cc in
    let same = one_place ids x y up (All-head (λ v. v < length ids) x xs a) (All-head (λ v. v < length ids) y ys b) head in
    rw (same, same_successors ids xs ys up (All-tail (λ v. v < length ids) x xs a) (All-tail (λ v. v < length ids) y ys b) tail) refl
  where
    one_place : (ids : List ℕ) (x y : ℕ) → IsStrictlyIncreasing ids → x < length ids → y < length ids → slice_index ids x ≡ slice_index ids y → x ≡ y
    one_place ids x y up a b same = elim (cases_lt x y) [
      | inl lt ↦ (let rise = below_from_sorted ids x y 0 (sorted_from_strictly_increasing ids up) lt b in absurd (omega arith))
      | inr ge ↦ elim (cases_lt y x) [
        | inl lt ↦ (let rise = below_from_sorted ids y x 0 (sorted_from_strictly_increasing ids up) lt a in absurd (omega arith))
        | inr le ↦ omega arith
      ]
    ]

pub same_vertex : (x y : GameVertex) → x.identifier ≡ y.identifier → x.priority ≡ y.priority → x.owner ≡ y.owner
    → x.successors ≡ y.successors → x.name ≡ y.name → x ≡ y
same_vertex x y i p o s n = grind (arith, nat_tests)

abbrev AllIn : ℕ → List GameVertex → Type 0
AllIn n xs = All (λ x. All (λ v. v < n) x.successors) xs

same_vertices : (ids : List ℕ) (game other xs ys : List GameVertex) → IsStrictlyIncreasing ids → identifiers game ≡ ids
    → identifiers other ≡ ids → AllIn (length ids) xs → AllIn (length ids) ys → map (line_of game) xs ≡ map (line_of other) ys → xs ≡ ys
same_vertices ids game other [] [] up g o a b h = refl
same_vertices ids game other [] (y ∷ ys) up g o a b h = absurd cc
same_vertices ids game other (x ∷ xs) [] up g o a b h = absurd cc
same_vertices ids game other (x ∷ xs) (y ∷ ys) up g o a b h =
    let head : line_of game x ≡ line_of other y = cc in
    let tail : map (line_of game) xs ≡ map (line_of other) ys = cc in
    let P = λ (x : GameVertex). All (λ v. v < length ids) (x.successors) in
    let named : map (identifier game) (x.successors) ≡ map (identifier other) (y.successors) = ap (λ (l : Line). l.successors) head in
    let mine : map (identifier game) (x.successors) ≡ map (slice_index ids) (x.successors) =
    map_same (identifier game) (slice_index ids) (x.successors) (λ v. identifier_is game v ∙ ap (λ (i : List ℕ). slice_index i v) g) in
    let theirs : map (identifier other) (y.successors) ≡ map (slice_index ids) (y.successors) =
    map_same (identifier other) (slice_index ids) (y.successors) (λ v. identifier_is other v ∙ ap
    (λ (i : List ℕ). slice_index i v) o) in
    let leads = same_successors ids (x.successors) (y.successors) up (All-head P x xs a) (All-head P y ys b) (sym mine ∙ named ∙ theirs) in
    let same = same_vertex x y (ap (λ (l : Line). l.identifier) head) (ap (λ (l : Line). l.priority) head)
    (ap (λ (l : Line). l.owner) head) leads (ap (λ (l : Line). l.name) head) in
    rw (same, same_vertices ids game other xs ys up g o (All-tail P x xs a) (All-tail P y ys b) tail) refl

contains_vertex : (game : List GameVertex) (v : ℕ) → v < length game → Contains game (vertex_at game v)
contains_vertex game v lt = Contains-get_or game v nowhere lt

all_in : (game : List GameVertex) → IsGame game → AllIn (length game) game
all_in game well = All-from_get_or (λ (x : GameVertex). All (λ v. v < length game) (x.successors)) game nowhere
    (λ i lt. λ k e within. well.in_range i (get_or (successors game i) k e) (Contains-get_or (successors game i) k e within))

pub one_game : (lines : List Line) (game other : List GameVertex) → IsGameOf lines game → IsGameOf lines other → game ≡ other
one_game lines game other g o =
    let same = same_lines_of lines game other g o in
    let named : identifiers other ≡ identifiers game = sym (lines_named other other) ∙ ap (map id) (sym same) ∙ lines_named game game in
    let count : length other ≡ length game = sym (length-map other (λ (x : GameVertex). x.identifier)) ∙ ap length named
    ∙ length-map game (λ (x : GameVertex). x.identifier) in
    let mine : length (identifiers game) ≡ length game = length-map game (λ (x : GameVertex). x.identifier) in
    same_vertices (identifiers game) game other game other g.well.rising refl named
    (subst (λ (n : ℕ). AllIn n game) (sym mine) (all_in game g.well))
    (subst (λ (n : ℕ). AllIn n other) (count ∙ sym mine) (all_in other o.well))
    same

-- ---- lines with a game have no unknown successor

named_by_ids : (lines : List Line) (q : ℕ) → is_named lines q ≡ has q (map id lines)
named_by_ids [] q = refl
named_by_ids (line ∷ lines) q = ap (λ b. eqb q (line.identifier) || b) (named_by_ids lines q)

named_vertex : (lines : List Line) (game : List GameVertex) (v : ℕ) → IsGameOf lines game → v < length game → is_named lines (identifier game v) ≡ true
named_vertex lines game v g lt =
    let q : ℕ = identifier game v in
    list_any-IsPermutation (λ (line : Line). eqb q line.identifier) lines (lines_of game) g.same
    ∙ named_by_ids (lines_of game) q ∙ ap (has q) (lines_named game game)
    ∙ has_contained q (identifiers game) (contains_mapped (λ (x : GameVertex). x.identifier) game (vertex_at game v) (contains_vertex game v lt))

pub no_unknown : (lines : List Line) (game : List GameVertex) (i s : ℕ) → IsGameOf lines game → IsUnknown lines i s → ⊥
no_unknown lines game i s g u =
    let p = contains_map (line_of game) game u.line (Contains-permutation lines (lines_of game) u.line g.same u.given) in
    let x : GameVertex = p.0 in
    let leads : Contains (map (identifier game) (x.successors)) s = subst (λ (l : Line). Contains (l.successors) s) (sym (p.2)) u.leads in
    let q = contains_map (identifier game) (x.successors) s leads in
    let k : ℕ = p.1.0 in
    let at : vertex_at game k ≡ x = get_or_default game k nowhere x (p.1.1) ∙ p.1.2 in
    let edge : IsEdge game k (q.0) = subst (λ (y : GameVertex). Contains (y.successors) (q.0)) (sym at) (q.1) in
    let within = g.well.in_range k (q.0) edge in
    let named : is_named lines s ≡ true = subst (λ (n : ℕ). is_named lines n ≡ true) (q.2) (named_vertex lines game (q.0) g within) in
    let wrong : true ≡ false = sym named ∙ u.undefined in
    absurd cc

no_lines : (lines : List Line) (game : List GameVertex) → IsGameOf lines game → lines ≡ [] → ⊥
no_lines lines game g none = omega (arith, length_permutation lines (lines_of game) g.same, length-map game (line_of game), ap length none, g.well.nonempty)

only_memory : (lines : List Line) (game : List GameVertex) (e : ArenaFault) → IsGameOf lines game → FinishFails lines e → e ≡ OutOfMemory
only_memory lines game OutOfMemory g f = refl
only_memory lines game NoVertex g f = absurd (no_lines lines game g f)
only_memory lines game (UnknownSuccessor i s) g f = absurd (no_unknown lines game i s g f.unknown)
only_memory lines game _ g f = absurd f

pub only : (lines : List Line) (r : Result (List GameVertex) ArenaFault) → IfOk r (IsGameOf lines) → IfErr r (FinishFails lines)
    → (game : List GameVertex) → IsGameOf lines game → MatchResult r (λ g. g ≡ game) (λ e. e ≡ OutOfMemory)
only lines (Ok g) ok err game is = one_game lines g game ok is
only lines (Err e) ok err game is = only_memory lines game e is err
