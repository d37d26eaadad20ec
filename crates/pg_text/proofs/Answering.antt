-- The vertices of a game by their identifiers, and what one line says of them.
use Rattle.pg_text.proofs.Common.{◌≡◌, ◌≢◌, ℕ, ◌<◌, Bool, false, List, length, get_or, Result, Err, sym, ap, subst, ◌∙◌, arith, inl, inr}
use Rattle.pg_text.proofs.Common.{nat_tests, Contains, IsStrictlyIncreasing, IsBinarySearchResult, nat_cmp, cases_lt, get_or-map}
use Rattle.pg_text.proofs.Common.{get_or_default, length-map, AllPairs-from_increasing, searched, sorted_from_strictly_increasing}
use Rattle.pg_text.proofs.Common.{non_decreasing_from_sorted, GameVertex, nowhere, identifiers, identifier, successors, IsEdge, IsGame}
use Rattle.pg_text.proofs.Common.{SolutionLine, Fits, IsUnknown, is_seen, LeadsNowhere, IsUnmarked}

identifier_at : (game : List GameVertex) (v : ℕ) → v < length game → get_or (identifiers game) v 0 ≡ identifier game v
identifier_at game v within = get_or-map (λ (x : GameVertex). x.identifier) game v nowhere 0 within

identifier_rises : (game : List GameVertex) (v u : ℕ) → IsGame game → u < length game → v < u → identifier game v < identifier game u
identifier_rises game v u well within lt =
    grind (
      arith,
      nat_tests,
      AllPairs-from_increasing (identifiers game) well.rising v u 0 lt (rw length-map within),
      identifier_at game v (omega arith),
      identifier_at game u within,
    )

-- no two vertices have one identifier
pub same_vertex : (game : List GameVertex) (v u : ℕ) → IsGame game → v < length game → u < length game → identifier game v ≡ identifier game u → v ≡ u
same_vertex game v u well v_in u_in e =
    elim (cases_lt v u) [
      | inl lt ↦ (let rises = identifier_rises game v u well u_in lt in absurd (omega arith))
      | inr ge ↦ elim (cases_lt u v) [
        | inl lt ↦ (let rises = identifier_rises game u v well v_in lt in absurd (omega arith))
        | inr le ↦ omega arith
      ]
    ]

-- what is searched in rising numbers and not found isn't there
pub not_found : (xs : List ℕ) (x i : ℕ) → IsStrictlyIncreasing xs
    → (let r : Result ℕ ℕ = Err i in IsBinarySearchResult (λ y. nat_cmp y x) xs r) → ¬ Contains xs x
not_found xs x i rises h c =
    let found = searched xs x (Err i) h (λ i j le lt. non_decreasing_from_sorted xs (sorted_from_strictly_increasing xs rises) i j 0 le lt) in
    let at : get_or xs c.0 0 ≡ x = sym (get_or_default xs c.0 x 0 c.1) ∙ c.2 in
    elim (cases_lt c.0 i) [
      | inl low ↦ (let below = found.1 c.0 low in omega arith)
      | inr high ↦ (let above = found.2 c.0 high c.1 in omega arith)
    ]

-- the only vertex with an identifier is no successor, so none with that identifier is
pub no_successor : (game : List GameVertex) (v w i n : ℕ) → IsGame game → w < length game → identifier game w ≡ n
    → (let r : Result ℕ ℕ = Err i in IsBinarySearchResult (λ y. nat_cmp y w) (successors game v) r)
    → (u : ℕ) → IsEdge game v u → identifier game u ≢ n
no_successor game v w i n well within named h = λ u edge e.
    let same : u ≡ w = same_vertex game u w well (well.in_range v u edge) within (e ∙ sym named) in
    not_found (successors game v) w i (well.successors_rise v) h (subst (λ (t : ℕ). IsEdge game v t) same edge)

-- a strategy that leads nowhere doesn't fit
pub unfit : (game : List GameVertex) (line : SolutionLine) (v : ℕ) → IsGame game → v < length game → identifier game v ≡ line.identifier
    → LeadsNowhere game line v → ¬ Fits game line
unfit game line v well within named nowhere f = grind (arith, nat_tests, same_vertex game v f.v well within f.within (named ∙ f.named))

-- no marked vertex has the identifier of one that isn't marked
pub unmarked_here : (game : List GameVertex) (n v : ℕ) (seen : List Bool) → IsGame game → v < length game → n ≡ identifier game v
    → is_seen seen v ≡ false → IsUnmarked game n seen
unmarked_here game n v seen well within named unmarked = λ u u_in e. ap (is_seen seen) (same_vertex game u v well u_in within (sym e ∙ named)) ∙ unmarked

-- nor one that no vertex has
pub unmarked_nowhere : (game : List GameVertex) (n : ℕ) (seen : List Bool) → IsUnknown game n → IsUnmarked game n seen
unmarked_nowhere game n seen unknown = λ u u_in e. absurd (unknown u u_in (sym e))
