-- The first unknown successor of sorted entries is the least of the lines.
use Rattle.pg_arena.proofs.Common.{◌≡◌, ℕ, ◌≤◌, ◌<◌, true, false, not, cond, eqb, List, [], ◌∷◌, length, get_or, ◌+◌, drop, Option, Some}
use Rattle.pg_arena.proofs.Common.{None, ◌⊎◌, All, slice_range, Contains, IsSome, refl, sym, ap, subst, ◌∙◌, arith, inl, inr, nat_tests}
use Rattle.pg_arena.proofs.Common.{option_map, option_or, AllPairs, IsStrictlyIncreasing, Vec, Global, drop_more, drop_all, some_pair_parts}
use Rattle.pg_arena.proofs.Common.{All-head, All-tail, Contains-permutation, IsPermutation-sym, list_any-IsPermutation}
use Rattle.pg_arena.proofs.Common.{AllPairs-from_increasing, Entry, Line, is_named, IsUnknown, IsLeastUnknown, Row, row_of, rows_in}
use Rattle.pg_arena.proofs.Common.{entry_at, vertex_in, vertices_in, IsOrderly, HasUnknown, unknown_in, first_unknown_in, Rises}
use Rattle.pg_arena.proofs.Common.{contains_cases, contains_here, contains_later, contains_flat, pairs_head, pairs_tail, pairs_by, has}
use Rattle.pg_arena.proofs.Beside.{rows_long, row_at}
use Rattle.pg_arena.proofs.Adding.{named_is}
use Rattle.pg_arena.proofs.Finishing.{IsReady, identifiers_are}

abbrev Names : Type 0
Names = List (Vec ℕ Global)

-- ---- one entry's successors

abbrev IsLeastOf : List ℕ → List ℕ → ℕ → Type 0
IsLeastOf ids ns n = Contains ns n × (has n ids ≡ false) × ((a : ℕ) → Contains ns a → has a ids ≡ false → n ≤ a)

found_least : (ids ns : List ℕ) (n : ℕ) → Rises ns → unknown_in ids ns ≡ Some n → IsLeastOf ids ns n
found_least ids [] n up h = absurd cc
found_least ids (m ∷ ms) n up h =
    elim (has m ids) as (λ b. has m ids ≡ b → cond (not b) (Some m) (unknown_in ids ms) ≡ Some n → IsLeastOf ids (m ∷ ms) n) [
      | true ↦ λ known h. (let rest = found_least ids ms n (pairs_tail (λ x y. x < y) m ms up) h in (
        contains_later m ms n (rest.0),
        rest.1,
        λ a c none. elim
            (contains_cases m ms a c) [
              | inl same ↦ (let wrong : true ≡ false = sym known ∙ ap (λ (k : ℕ). has k ids) (sym same) ∙ none in absurd cc)
              | inr later ↦ rest.2 a later none
            ],
      ))
      | false ↦ λ none h. (let same : m ≡ n = cc in (
        subst (Contains (m ∷ ms)) same (contains_here m ms),
        subst (λ (k : ℕ). has k ids ≡ false) same none,
        λ a c other. elim
            (contains_cases m ms a c) [ inl e ↦ omega arith | inr later ↦ (let lt : m < a = pairs_head (λ x y. x < y) m ms a up later in omega arith) ],
      ))
    ] refl h

none_unknown : (ids ns : List ℕ) → unknown_in ids ns ≡ None → (a : ℕ) → Contains ns a → has a ids ≡ false → ⊥
none_unknown ids [] h a (k, lt, is) none = omega arith
none_unknown ids (m ∷ ms) h a c none =
    elim (has m ids) as (λ b. has m ids ≡ b → cond (not b) (Some m) (unknown_in ids ms) ≡ None → ⊥) [
      | true ↦ λ known h. elim (contains_cases m ms a c) [
        | inl same ↦ (let wrong : true ≡ false = sym known ∙ ap (λ (k : ℕ). has k ids) (sym same)
            ∙ none in absurd cc)
        | inr later ↦ none_unknown ids ms h a later none
      ]
      | false ↦ λ known h. absurd cc
    ] refl h

-- ---- all entries

record IsUnknownBy (ids : List ℕ) (lines : List Line) (identifier successor : ℕ) : Type 0 where
  pub line : Line
  pub given : Contains lines line
  pub of : line.identifier ≡ identifier
  pub leads : Contains line.successors successor
  pub undefined : has successor ids ≡ false

record IsLeastBy (ids : List ℕ) (lines : List Line) (identifier successor : ℕ) : Type 0 where
  pub unknown : IsUnknownBy ids lines identifier successor
  pub least_identifier : (other any : ℕ) → IsUnknownBy ids lines other any → identifier ≤ other
  pub least_successor : (other : ℕ) → IsUnknownBy ids lines identifier other → successor ≤ other

unknown_cases : (ids : List ℕ) (line : Line) (lines : List Line) (i s : ℕ) → IsUnknownBy ids (line ∷ lines) i s
    → ((line.identifier ≡ i) × Contains (line.successors) s × (has s ids ≡ false)) ⊎ IsUnknownBy ids lines i s
unknown_cases ids line lines i s u = grind (arith, nat_tests, contains_cases line lines u.line u.given)

unknown_later : (ids : List ℕ) (line : Line) (lines : List Line) (i s : ℕ) → IsUnknownBy ids lines i s → IsUnknownBy ids (line ∷ lines) i s
unknown_later ids line lines i s u =
    record { line = u.line; given = contains_later line lines u.line u.given; of = u.of; leads = u.leads; undefined = u.undefined }

abbrev Before : Line → Line → Type 0
Before x y = x.identifier < y.identifier

least_by : (ids targets : List ℕ) (names : Names) (rows : List Row) (i s : ℕ) → AllPairs Before (vertices_in targets names rows)
    → All IsOrderly (vertices_in targets names rows) → first_unknown_in ids targets rows ≡ Some (i, s) → IsLeastBy ids (vertices_in targets names rows) i s
least_by ids targets names [] i s up orderly h = absurd cc
least_by ids targets names (e ∷ rows) i s up orderly h =
    let line = vertex_in targets names e in
    let lines = vertices_in targets names rows in
    let ns : List ℕ = slice_range targets (e.from) (e.to) in
    let first = All-head IsOrderly line lines orderly in
    let rest = All-tail IsOrderly line lines orderly in
    elim (unknown_in ids ns) as (λ o. unknown_in ids ns ≡ o
    → option_or (option_map (λ n. (e.identifier, n)) o) (first_unknown_in ids targets rows) ≡ Some (i, s) → IsLeastBy ids (line ∷ lines) i s) [
      | Some n ↦ λ is h. (let p = some_pair_parts (e.identifier) i n s h in
          let f = found_least ids ns n (AllPairs-from_increasing ns first.rise) is in
          record {
            unknown = record {
              line = line;
              given = contains_here line lines;
              of = p.0;
              leads = subst (Contains ns) (p.1) (f.0);
              undefined = subst (λ (k : ℕ). has k ids ≡ false) (p.1) (f.1);
            };
            least_identifier = λ o a u. elim (unknown_cases ids line lines o a u) [
              | inl here ↦ omega (arith, here.0, p.0)
              | inr later ↦ (let lt : Before line later.line = pairs_head Before line lines later.line up later.given in omega (arith, p.0, later.of))
            ];
            least_successor = λ a u. elim (unknown_cases ids line lines i a u) [
              | inl here ↦ omega (arith, f.2 a (here.1) (here.2), p.1)
              | inr later ↦ (let lt : Before line later.line = pairs_head Before line lines later.line up later.given in absurd (omega (arith, p.0, later.of)))
            ];
          })
      | None ↦ λ is h. (let r = least_by ids targets names rows i s (pairs_tail Before line lines up) rest h in
          record {
            unknown = unknown_later ids line lines i s r.unknown;
            least_identifier = λ o a u. elim (unknown_cases ids line lines o a u) [
              | inl here ↦ absurd (none_unknown ids ns is a (here.1) (here.2))
              | inr later ↦ r.least_identifier o a later
            ];
            least_successor = λ a u. elim (unknown_cases ids line lines i a u) [
              | inl here ↦ absurd (none_unknown ids ns is a (here.1) (here.2))
              | inr later ↦ r.least_successor a later
            ];
          })
    ] refl h

none_by : (ids targets : List ℕ) (names : Names) (rows : List Row) → first_unknown_in ids targets rows ≡ None → (i s : ℕ)
    → IsUnknownBy ids (vertices_in targets names rows) i s → ⊥
none_by ids targets names [] h i s u = let lt = u.given.1 in omega arith
none_by ids targets names (e ∷ rows) h i s u =
    let line = vertex_in targets names e in
    let lines = vertices_in targets names rows in
    let ns : List ℕ = slice_range targets (e.from) (e.to) in
    elim (unknown_in ids ns) as (λ o. unknown_in ids ns ≡ o → option_or (option_map (λ n. (e.identifier, n)) o) (first_unknown_in ids targets rows) ≡ None
    → ⊥) [
      | Some n ↦ λ is h. absurd cc
      | None ↦ λ is h. elim (unknown_cases ids line lines i s u) [
        | inl here ↦ none_unknown ids ns is s (here.1) (here.2)
        | inr later ↦ none_by ids targets names rows h i s later
      ]
    ] refl h

-- vertex by vertex
pub unknown_here : (all targets ids : List ℕ) (places : List (Option ℕ)) (entries : List Entry) (v s : ℕ) → length ids ≡ length entries → v < length ids
    → unknown_in all (slice_range targets (entry_at entries v).from (entry_at entries v).to) ≡ Some s
    → first_unknown_in all targets (drop v (rows_in ids places entries)) ≡ Some (get_or ids v 0, s)
unknown_here all targets ids places entries v s long lt is =
    let rows : List Row = rows_in ids places entries in
    let d : Row = row_of 0 None (entry_at [] 0) in
    ap (first_unknown_in all targets) (drop_more rows v d (omega (arith, rows_long ids places entries long))
    ∙ ap (λ (r : Row). r ∷ drop (v + 1) rows) (row_at ids places entries v d long lt))
    ∙ ap (λ (o : Option ℕ). option_or (option_map (λ n. (get_or ids v 0, n)) o) (first_unknown_in all targets (drop (v + 1) rows))) is

pub unknown_later_on : (all targets ids : List ℕ) (places : List (Option ℕ)) (entries : List Entry) (v : ℕ) → length ids ≡ length entries → v < length ids
    → unknown_in all (slice_range targets (entry_at entries v).from (entry_at entries v).to) ≡ None
    → first_unknown_in all targets (drop v (rows_in ids places entries)) ≡ first_unknown_in all targets (drop (v + 1) (rows_in ids places entries))
unknown_later_on all targets ids places entries v long lt is =
    let rows : List Row = rows_in ids places entries in
    let d : Row = row_of 0 None (entry_at [] 0) in
    ap (first_unknown_in all targets) (drop_more rows v d (omega (arith, rows_long ids places entries long))
    ∙ ap (λ (r : Row). r ∷ drop (v + 1) rows) (row_at ids places entries v d long lt))
    ∙ ap (λ (o : Option ℕ). option_or (option_map (λ n. (get_or ids v 0, n)) o) (first_unknown_in all targets (drop (v + 1) rows))) is

pub no_unknown_left : (all targets ids : List ℕ) (places : List (Option ℕ)) (entries : List Entry) (v : ℕ) → length ids ≡ length entries → length ids ≤ v
    → first_unknown_in all targets (drop v (rows_in ids places entries)) ≡ None
no_unknown_left all targets ids places entries v long past =
    ap (first_unknown_in all targets) (drop_all v (rows_in ids places entries) (omega (arith, rows_long ids places entries long)))

-- names don't matter
pub unknown_same : (all targets ids : List ℕ) (places other : List (Option ℕ)) (entries : List Entry)
    → first_unknown_in all targets (rows_in ids places entries) ≡ first_unknown_in all targets (rows_in ids other entries)
unknown_same all targets [] places other entries = refl
unknown_same all targets (i ∷ ids) places other [] = refl
unknown_same all targets (i ∷ ids) places other (e ∷ entries) = grind (arith, nat_tests, unknown_same all targets ids (drop 1 places) (drop 1 other) entries)

-- ---- and so of the lines

named_same : {lines : List Line} {ids targets : List ℕ} {names : Names} {sorted : List Row} (q : ℕ) → IsReady lines ids targets names sorted
    → is_named lines q ≡ has q ids
named_same {lines} {ids} {targets} {names} {sorted} q r =
    list_any-IsPermutation (λ (line : Line). eqb q line.identifier) lines (vertices_in targets names sorted) r.same ∙ named_is targets names sorted q
    ∙ ap (has q) (sym r.listed)

to_lines : {lines : List Line} {ids targets : List ℕ} {names : Names} {sorted : List Row} (i s : ℕ) → IsReady lines ids targets names sorted
    → IsUnknownBy ids (vertices_in targets names sorted) i s → IsUnknown lines i s
to_lines {lines} {ids} {targets} {names} {sorted} i s r u =
    grind (
      arith,
      nat_tests,
      Contains-permutation (vertices_in targets names sorted) lines u.line
          (IsPermutation-sym lines (vertices_in targets names sorted) r.same) u.given,
      named_same s r,
    )

from_lines : {lines : List Line} {ids targets : List ℕ} {names : Names} {sorted : List Row} (i s : ℕ) → IsReady lines ids targets names sorted
    → IsUnknown lines i s → IsUnknownBy ids (vertices_in targets names sorted) i s
from_lines {lines} {ids} {targets} {names} {sorted} i s r u =
    grind (arith, nat_tests, Contains-permutation lines (vertices_in targets names sorted) u.line r.same u.given, named_same s r)

pub least_unknown : {lines : List Line} {ids targets : List ℕ} {names : Names} {sorted : List Row} (i s : ℕ) → IsReady lines ids targets names sorted
    → first_unknown_in ids targets sorted ≡ Some (i, s) → IsLeastUnknown lines i s
least_unknown {lines} {ids} {targets} {names} {sorted} i s r h =
    let up : AllPairs Before (vertices_in targets names sorted) = pairs_by (λ line. line.identifier) (vertices_in targets names sorted)
    (subst IsStrictlyIncreasing (r.listed ∙ sym (identifiers_are targets names sorted)) r.rising) in
    let l = least_by ids targets names sorted i s up r.orderly h in
    record {
      unknown = to_lines i s r l.unknown;
      least_identifier = λ o a u. l.least_identifier o a (from_lines o a r u);
      least_successor = λ a u. l.least_successor a (from_lines i a r u);
    }

pub some_unknown : {lines : List Line} {ids targets : List ℕ} {names : Names} {sorted : List Row} → IsReady lines ids targets names sorted
    → HasUnknown ids targets → IsSome (first_unknown_in ids targets sorted)
some_unknown {lines} {ids} {targets} {names} {sorted} r (n, there, none) =
    let l = contains_flat (λ (line : Line). line.successors) lines n (subst (λ (ts : List ℕ). Contains ts n) r.laid there) in
    let u : IsUnknown lines ((l.0).identifier) n = record { line = l.0; given = l.1; of = refl; leads = l.2; undefined = named_same n r ∙ none } in
    elim (first_unknown_in ids targets sorted) as (λ o. first_unknown_in ids targets sorted ≡ o → IsSome o) [
      | Some p ↦ λ is. refl
      | None ↦ λ is. absurd (none_by ids targets names sorted is ((l.0).identifier) n (from_lines ((l.0).identifier) n r u))
    ] refl
