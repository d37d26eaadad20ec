-- The vertex of an identifier, by its place among the identifiers.
use Rattle.pg_arena.proofs.Common.{◌≡◌, ℕ, ◌≤◌, ◌<◌, true, false, List, [], length, get_or, Option, Some, sym, ap, subst, ◌∙◌, arith, inl}
use Rattle.pg_arena.proofs.Common.{inr, nat_tests, slice_index, Contains, All, ◌^◌, IsStrictlyIncreasing, Vec, Global, cases_lt, length-map}
use Rattle.pg_arena.proofs.Common.{get_or-map, get_or_default, Contains-get_or, sorted_from_strictly_increasing, below_from_sorted, Entry}
use Rattle.pg_arena.proofs.Common.{GameVertex, identifiers, identifier, vertex_at, nowhere, Row, row_of, rows_in, place_at, entry_at}
use Rattle.pg_arena.proofs.Common.{vertex_in, vertices_in, IsBuilt, IsBuiltIn, has, has_contained}
use Rattle.pg_arena.proofs.Beside.{rows_long, row_at}
use Rattle.pg_arena.proofs.Finishing.{identifiers_are, identifier_is}

pub record IsListed (ids : List ℕ) (game : List GameVertex) : Type 0 where
  pub listed : ids ≡ identifiers game
  pub rising : IsStrictlyIncreasing ids

pub listed_by : {ids targets : List ℕ} {names : List (Vec ℕ Global)} {rows : List Row} (game : List GameVertex) → IsBuilt ids targets names rows
    → vertices_in targets names rows ≡ game → IsListed ids game
listed_by {ids} {targets} {names} {rows} game b view = grind (arith, nat_tests, identifiers_are targets names rows)

at_place : (ids : List ℕ) (game : List GameVertex) (v : ℕ) → IsListed ids game → slice_index ids v ≡ identifier game v
at_place ids game v l = ap (λ (is : List ℕ). slice_index is v) l.listed ∙ sym (identifier_is game v)

long : (ids : List ℕ) (game : List GameVertex) → IsListed ids game → length ids ≡ length game
long ids game l = ap length l.listed ∙ length-map game (λ (x : GameVertex). x.identifier)

pub found : (ids : List ℕ) (game : List GameVertex) (n v : ℕ) → IsListed ids game → v < length ids → slice_index ids v ≡ n
    → (v < length game) × ((vertex_at game v).identifier ≡ n)
found ids game n v l lt is = (omega (arith, long ids game l), sym (at_place ids game v l) ∙ is)

pub missing : (ids : List ℕ) (game : List GameVertex) (n : ℕ) → IsListed ids game → has n ids ≡ false → (v : ℕ) → v < length game
    → (vertex_at game v).identifier ≡ n → ⊥
missing ids game n l none v lt is =
    let within : v < length ids = omega (arith, long ids game l) in
    let there : Contains ids n = subst (Contains ids) (at_place ids game v l ∙ is) (Contains-get_or ids v 0 within) in
    let wrong : true ≡ false = sym (has_contained n ids there) ∙ none in
    absurd cc

pub only_one : (ids : List ℕ) (game : List GameVertex) (n v w : ℕ) → IsListed ids game → v < length ids → slice_index ids v ≡ n → w < length game
    → (vertex_at game w).identifier ≡ n → Some v ≡ Some w
only_one ids game n v w l lt is other there =
    let within : w < length ids = omega (arith, long ids game l) in
    let same : slice_index ids v ≡ slice_index ids w = is ∙ sym (at_place ids game w l ∙ there) in
    elim (cases_lt v w) [
      | inl low ↦ (let rise = below_from_sorted ids v w 0 (sorted_from_strictly_increasing ids l.rising) low within in absurd (omega arith))
      | inr high ↦ elim (cases_lt w v) [
        | inl low ↦ (let rise = below_from_sorted ids w v 0 (sorted_from_strictly_increasing ids l.rising) low lt in absurd (omega arith))
        | inr le ↦ (let e : v ≡ w = omega arith in ap (λ (k : ℕ). Some k) e)
      ]
    ]

-- the identifiers of a game that keeps them as numbers of 32 bits are such numbers
pub all_fit : (ids : List ℕ) (game : List GameVertex) → IsListed ids game → ((i : ℕ) → slice_index ids i < 4294967296) → All (λ x. x.identifier < 2 ^ 32) game
all_fit ids game l fit = λ k d lt.
    let is : slice_index ids k ≡ (get_or game k d).identifier =
    ap (λ (is : List ℕ). slice_index is k) l.listed ∙ get_or-map (λ (x : GameVertex). x.identifier) game k d 0 lt in
    let small = fit k in
    subst (λ (n : ℕ). n < 4294967296) is small

-- ---- what the lists say of a vertex

abbrev pub row_of_vertex : List ℕ → List (Option ℕ) → List Entry → ℕ → Row
row_of_vertex ids places entries v = row_of (get_or ids v 0) (place_at places v) (entry_at entries v)

pub within : {ids targets : List ℕ} {names : List (Vec ℕ Global)} {places : List (Option ℕ)} {entries : List Entry} (game : List GameVertex) (v : ℕ)
    → IsBuiltIn ids targets names places entries → vertices_in targets names (rows_in ids places entries) ≡ game → v < length game → v < length ids
within {ids} {targets} {names} {places} {entries} game v b view lt =
    omega (arith, ap length view, length-map (rows_in ids places entries) (vertex_in targets names), rows_long ids places entries b.as_many)

pub vertex_is : {ids targets : List ℕ} {names : List (Vec ℕ Global)} {places : List (Option ℕ)} {entries : List Entry} (game : List GameVertex) (v : ℕ)
    → IsBuiltIn ids targets names places entries → vertices_in targets names (rows_in ids places entries) ≡ game → v < length game
    → vertex_at game v ≡ vertex_in targets names (row_of_vertex ids places entries v)
vertex_is {ids} {targets} {names} {places} {entries} game v b view lt =
    let rows : List Row = rows_in ids places entries in
    let d : Row = row_of_vertex [] [] [] 0 in
    let low = within game v b view lt in
    ap (λ (g : List GameVertex). vertex_at g v) (sym view)
    ∙ get_or-map (vertex_in targets names) rows v d nowhere (omega (arith, rows_long ids places entries b.as_many))
    ∙ ap (vertex_in targets names) (row_at ids places entries v d b.as_many low)

pub range_is : {ids targets : List ℕ} {names : List (Vec ℕ Global)} {places : List (Option ℕ)} {entries : List Entry} (game : List GameVertex) (v : ℕ)
    → IsBuiltIn ids targets names places entries → vertices_in targets names (rows_in ids places entries) ≡ game → v < length game
    → ((entry_at entries v).from ≤ (entry_at entries v).to) × ((entry_at entries v).to ≤ length targets)
range_is {ids} {targets} {names} {places} {entries} game v b view lt =
    let d : Row = row_of_vertex [] [] [] 0 in
    let low = within game v b view lt in
    subst (λ (r : Row). (r.from ≤ r.to) × (r.to ≤ length targets)) (row_at ids places entries v d b.as_many low)
    (b.built.ranges v d (omega (arith, rows_long ids places entries b.as_many)))

pub entry_read : {ids targets : List ℕ} {names : List (Vec ℕ Global)} {places : List (Option ℕ)} {entries : List Entry} (game : List GameVertex) (v w : ℕ)
    (e : Entry) → IsBuiltIn ids targets names places entries → vertices_in targets names (rows_in ids places entries) ≡ game → v < length game → w ≡ v
    → e ≡ get_or entries w e → e ≡ entry_at entries v
entry_read {ids} {targets} {names} {places} {entries} game v w e b view lt same read =
    let low = within game v b view lt in
    read ∙ ap (λ (k : ℕ). get_or entries k e) same ∙ get_or_default entries v e (entry_at [] 0) (omega (arith, b.as_many))
