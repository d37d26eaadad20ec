-- Who wins the cycles of an order: from the place of a cycle that stands first all that follows is before its end.
use Rattle.std.proofs.Common.{◌≡◌, ℕ, zero, suc, ◌<◌, ◌≤◌, ◌⊎◌, inl, inr, List, [], ◌∷◌}
use Rattle.std.proofs.Common.{◌++◌, length, map, get_or, arith, ap, sym, refl, ◌∙◌, subst}
use Rattle.std.specs.Prelude.{IsTrue}
use Rattle.std.specs.List.{All, Contains}
use Rattle.std.proofs.lemmas.Bool.{cases_lt}
use Rattle.std.proofs.lemmas.List.{map-append, get_or-map, length-map}
use Rattle.std.proofs.lemmas.List.Elements.{All-nil, All-cons, All-head, All-tail, All-append, All-contains}
use Rattle.pg_arena.specs.declared.player.Player.{Player}
use Rattle.pg_arena.specs.Games.{HasParityOf, IsPath, IsGreatest}
use Rattle.pg_check_order.specs.declared.span.Span.{Span}
use Rattle.pg_check_order.specs.Orders.{span_at, LeadsBefore, WinsCycles, AreNested}
use Rattle.pg_check_order.specs.Laws.{NestedIsWon}

all_unmap : (f : ℕ → ℕ) (P : ℕ → Type 0) (xs : List ℕ) → All P (map f xs) → All (λ x. P (f x)) xs
all_unmap f P [] h = All-nil (λ x. P (f x))
all_unmap f P (x ∷ xs) h =
    All-cons (λ y. P (f y)) x xs (All-head P (f x) (map f xs) h) (all_unmap f P xs (All-tail P (f x) (map f xs) h))

-- one of a list that isn't empty is the least
pub record IsLeast (xs : List ℕ) (v : ℕ) : Type 0 where
  pub among : Contains xs v
  pub least : All (λ u. v ≤ u) xs

least_of : (x : ℕ) (xs : List ℕ) → (v : ℕ) × IsLeast (x ∷ xs) v
least_of x [] = (
  x,
  record { among = (0, omega arith, refl); least = All-cons (λ u. x ≤ u) x [] (omega arith) (All-nil (λ u. x ≤ u)) },
)
least_of x (y ∷ ys) = go (least_of y ys)
  where
    go : (v : ℕ) × IsLeast (y ∷ ys) v → (v : ℕ) × IsLeast (x ∷ y ∷ ys) v
    go (v, l) = elim (cases_lt v x) [
      | inl lt ↦ (
        v,
        record {
          among = (suc l.among.0, (let lt = l.among.1 in omega arith), l.among.2);
          least = All-cons (λ u. v ≤ u) x (y ∷ ys) (omega arith) l.least;
        },
      )
      | inr le ↦ (
        x,
        record {
          among = (0, omega arith, refl);
          least = All-cons (λ u. x ≤ u) x (y ∷ ys) (omega arith)
              (λ k d lt. let here : v ≤ get_or (y ∷ ys) k d = l.least k d lt in omega arith);
        },
      )
    ]

module _ (player : Player) (spans : List Span) (nested : AreNested player spans) where
  abbrev priority_at : ℕ → ℕ
  priority_at i = (span_at spans i).priority

  -- not before f, and before its end
  record IsUnder (f i : ℕ) : Type 0 where
    pub from : f ≤ i
    pub before : LeadsBefore spans f i

  goes_under : (f i j : ℕ) → (i ≡ f) ⊎ IsUnder f i → f ≤ j → LeadsBefore spans i j → IsUnder f j
  goes_under f i j (inl e) le leads = record { from = le; before = subst (λ k. LeadsBefore spans k j) e leads }
  goes_under f i j (inr under) le leads =
      let inner : (span_at spans i).end ≤ (span_at spans f).end = (nested f).inner i under.from under.before in
      record { from = le; before = omega arith }

  -- along a path of what doesn't stand before f
  keeps : (f i : ℕ) (js : List ℕ) (z : ℕ) → IsPath (LeadsBefore spans) i (js ++ z ∷ []) → All (λ j. f ≤ j) (js ++ z ∷ []) → IsUnder f i
      → All (IsUnder f) (i ∷ js)
  keeps f i [] z path later under = All-cons (IsUnder f) i [] under (All-nil (IsUnder f))
  keeps f i (j ∷ js) z path later under =
      All-cons (IsUnder f) i (j ∷ js) under (keeps f j js z path.1 (All-tail (λ u. f ≤ u) j (js ++ z ∷ []) later)
      (goes_under f i j (inr under) (All-head (λ u. f ≤ u) j (js ++ z ∷ []) later) path.0))

  -- to its end, where f is on it
  to_last : (f i : ℕ) (js : List ℕ) (z : ℕ) → IsPath (LeadsBefore spans) i (js ++ z ∷ []) → All (λ j. f ≤ j) (js ++ z ∷ [])
      → IsUnder f i ⊎ Contains (i ∷ js) f → IsUnder f z
  to_last f i [] z path later at =
      goes_under f i z (here at) (All-head (λ u. f ≤ u) z [] later) path.0
    where
      here : IsUnder f i ⊎ Contains (i ∷ []) f → (i ≡ f) ⊎ IsUnder f i
      here (inl under) = inr under
      here (inr (zero, lt, is)) = inl is
      here (inr (suc k, lt, is)) = absurd (omega arith)
  to_last f i (j ∷ js) z path later at = to_last f j js z path.1 (All-tail (λ u. f ≤ u) j (js ++ z ∷ []) later) (next at)
    where
      on : (i ≡ f) ⊎ IsUnder f i → IsUnder f j ⊎ Contains (j ∷ js) f
      on at = inl (goes_under f i j at (All-head (λ u. f ≤ u) j (js ++ z ∷ []) later) path.0)

      next : IsUnder f i ⊎ Contains (i ∷ j ∷ js) f → IsUnder f j ⊎ Contains (j ∷ js) f
      next (inl under) = on (inr under)
      next (inr (zero, lt, is)) = on (inl is)
      next (inr (suc k, lt, is)) = inr (k, omega arith, is)

  pub wins_places : WinsCycles player (LeadsBefore spans) priority_at
  wins_places i rest q path greatest = go (least_of i rest)
    where
      go : (f : ℕ) × IsLeast (i ∷ rest) f → HasParityOf player q
      go (f, is) =
          let later : All (λ u. f ≤ u) (rest ++ i ∷ []) = All-append (λ u. f ≤ u) rest (i ∷ []) (All-tail (λ u. f ≤ u) i rest is.least)
          (All-cons (λ u. f ≤ u) i [] (All-head (λ u. f ≤ u) i rest is.least) (All-nil (λ u. f ≤ u))) in
          let back = to_last f i rest i path later (inr is.among) in
          let all = keeps f i rest i path later back in
          let self : f < (span_at spans f).end = (All-contains (IsUnder f) (i ∷ rest) f all is.among).before in
          let k = greatest.occurs.0 in
          let inside : k < length (i ∷ rest) = let lt = greatest.occurs.1 in omega (arith, length-map (i ∷ rest) priority_at) in
          let under = all k 0 inside in
          let low : priority_at (get_or (i ∷ rest) k 0) ≤ priority_at f = (nested f).lower
          (get_or (i ∷ rest) k 0) under.from under.before in
          let at : priority_at (get_or (i ∷ rest) k 0) ≡ q = sym (get_or-map priority_at (i ∷ rest) k 0 q inside) ∙ greatest.occurs.2 in
          let most : priority_at f ≤ q = All-contains (λ u. priority_at u ≤ q) (i ∷ rest) f
          (all_unmap priority_at (λ p. p ≤ q) (i ∷ rest) greatest.above_all) is.among in
          let same : priority_at f ≡ q = omega arith in
          subst (HasParityOf player) same ((nested f).won self)

  -- nodes at places, by edges that lead to places before the end
  module _ (Edge : ℕ → ℕ → Type 0) (priority place : ℕ → ℕ)
      (stands : (v w : ℕ) → Edge v w → (span_at spans (place v)).priority ≡ priority v)
      (leads : (v w : ℕ) → Edge v w → LeadsBefore spans (place v) (place w)) where
    moved : (v : ℕ) (ws : List ℕ) → IsPath Edge v ws → IsPath (LeadsBefore spans) (place v) (map place ws)
    moved v [] path = tt
    moved v (w ∷ ws) path = (leads v w path.0, moved w ws path.1)

    same : (v : ℕ) (rest : List ℕ) (z : ℕ) → IsPath Edge v (rest ++ z ∷ []) → map priority (v ∷ rest) ≡ map priority_at
        (map place (v ∷ rest))
    same v [] z path = ap (λ p. p ∷ []) (sym (stands v z path.0))
    same v (w ∷ rest) z path =
        ap (λ p. p ∷ map priority (w ∷ rest)) (sym (stands v w path.0)) ∙ ap (λ ps. priority_at (place v) ∷ ps) (same w rest z path.1)

    pub wins_nodes : WinsCycles player Edge priority
    wins_nodes v rest q path greatest =
        wins_places (place v) (map place rest) q
        (subst (IsPath (LeadsBefore spans) (place v)) (map-append place rest (v ∷ [])) (moved v (rest ++ v ∷ []) path))
        (subst (IsGreatest q) (same v rest v path) greatest)

pub nested_is_won : NestedIsWon
nested_is_won player spans edge priority place nested stands leads =
    wins_nodes player spans nested (λ v w. IsTrue (edge v w)) priority place stands leads
