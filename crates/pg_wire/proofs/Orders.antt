-- Items that follow each other from place to place are in order, and back.
use Rattle.pg_wire.proofs.Common.{◌≡◌, ℕ, suc, ◌+◌, ◌<◌, ◌≤◌, List, [], ◌∷◌, length, get_or, drop, sym, ap, subst, ◌∙◌, arith}
use Rattle.pg_wire.proofs.Common.{drop_of_length-le, All, AllPairs, drop_more, All-cons, AllPairs-cons, Steps, Kind, AreItems}

-- each item fits at the place that the one before it sets
abbrev pub Follow : {A : Type 0} → Kind A → ℕ → List A → Type 0
Follow k at [] = Unit {0}
Follow k at (x ∷ xs) = (k.Stands at x × k.IsItem x) × Follow k (k.next x) xs

all_map : {A : Type 0} (P Q : A → Type 0) (xs : List A) → ((x : A) → P x → Q x) → All P xs → All Q xs
all_map P Q xs f h = λ i d lt. f _ (h i d lt)

pub pairs_head : {A : Type 0} (R : A → A → Type 0) (x : A) (xs : List A) → AllPairs R (x ∷ xs) → All (R x) xs
pairs_head R x xs h = λ i d lt. h 0 (suc i) d (omega arith) (omega arith)

pub pairs_tail : {A : Type 0} (R : A → A → Type 0) (x : A) (xs : List A) → AllPairs R (x ∷ xs) → AllPairs R xs
pairs_tail R x xs h = λ i j d lt within. h (suc i) (suc j) d (omega arith) (omega arith)

pub ordered : {A : Type 0} (k : Kind A) → Steps k.Stands k.Precedes k.next → (at : ℕ) (xs : List A) → Follow k at xs → AreItems k at xs
ordered k steps at [] h = record {
  stand = λ i d lt. absurd (omega arith);
  items = λ i d lt. absurd (omega arith);
  order = λ i j d lt within. absurd (omega arith);
}
ordered k steps at (x ∷ xs) h =
    let rest = ordered k steps (k.next x) xs h.1 in
    let after : All (k.Precedes x) xs = all_map (k.Stands (k.next x)) (k.Precedes x) xs (steps.forth x) rest.stand in
    record {
      stand = All-cons (k.Stands at) x xs h.0.0 (all_map (k.Precedes x) (k.Stands at) xs (λ y p. steps.later at x y h.0.0 p) after);
      items = All-cons k.IsItem x xs h.0.1 rest.items;
      order = AllPairs-cons k.Precedes x xs after rest.order;
    }

pub follow : {A : Type 0} (k : Kind A) → Steps k.Stands k.Precedes k.next → (at : ℕ) (xs : List A) → AreItems k at xs → Follow k at xs
follow k steps at [] h = tt
follow k steps at (x ∷ xs) h = (
  (h.stand 0 x (omega arith), h.items 0 x (omega arith)),
  follow k steps (k.next x) xs (record {
    stand = all_map (k.Precedes x) (k.Stands (k.next x)) xs (steps.back x) (pairs_head k.Precedes x xs h.order);
    items = λ i d lt. h.items (suc i) d (omega arith);
    order = pairs_tail k.Precedes x xs h.order;
  }),
)

-- a loop over the items: from the i-th on they follow exactly if all do
pub record Goes {A : Type 0} (k : Kind A) (place at i : ℕ) (xs : List A) : Type 0 where
  pub rest : Follow k place xs → Follow k at (drop i xs)
  pub whole : Follow k at (drop i xs) → Follow k place xs

pub goes_on : {A : Type 0} (k : Kind A) (place at i : ℕ) (xs : List A) (x : A)
    → i < length xs → x ≡ get_or xs i x → k.Stands at x × k.IsItem x → Goes k place at i xs → Goes k place (k.next x) (i + 1) xs
goes_on {A} k place at i xs x lt e fits h =
    let parts : drop i xs ≡ x ∷ drop (i + 1) xs = drop_more xs i x lt ∙ ap (λ (y : A). y ∷ drop (i + 1) xs) (sym e) in
    record {
      rest = λ f. let now : Follow k at (x ∷ drop (i + 1) xs) = subst (Follow k at) parts (h.rest f) in now.1;
      whole = λ f. let now : Follow k at (x ∷ drop (i + 1) xs) = (fits, f) in h.whole (subst (Follow k at) (sym parts) now);
    }

pub stops : {A : Type 0} (k : Kind A) (place at i : ℕ) (xs : List A) (x : A)
    → i < length xs → x ≡ get_or xs i x → Goes k place at i xs → Follow k place xs → k.Stands at x × k.IsItem x
stops {A} k place at i xs x lt e h f =
    let parts : drop i xs ≡ x ∷ drop (i + 1) xs = drop_more xs i x lt ∙ ap (λ (y : A). y ∷ drop (i + 1) xs) (sym e) in
    let now : Follow k at (x ∷ drop (i + 1) xs) = subst (Follow k at) parts (h.rest f) in
    now.0

pub past : {A : Type 0} (k : Kind A) (at i : ℕ) (xs : List A) → length xs ≤ i → Follow k at (drop i xs)
past k at i xs le = rw (drop_of_length-le xs le) tt
