-- Numbers of propositions as they are noted say what those say that are written.
use Rattle.pg_hoa_syntax.proofs.Common.{◌≡◌, ◌∙◌, ℕ, zero, suc, ◌+◌, ◌<◌, ◌≤◌, Bool, true, false, cond, List, [], ◌∷◌, ◌++◌, get_or, min, refl}
use Rattle.pg_hoa_syntax.proofs.Common.{sym, arith, nat_tests, ◌==◌, ◌||◌, ◌&&◌, nat_lt, All, list_any, list_all, ltb-true, lt-ltb}
use Rattle.pg_hoa_syntax.proofs.Common.{map-range_with_len_more, AllPass-from_list_all, list_all-from_AllPass, note, noted_behind, noted}
use Rattle.pg_hoa_syntax.proofs.Common.{marked}

pub noted_snoc : (kept front : List ℕ) (n : ℕ) → noted_behind kept (front ++ (n ∷ [])) ≡ note (noted_behind kept front) n
noted_snoc kept [] n = refl
noted_snoc kept (m ∷ front) n = noted_snoc (note kept m) front n

-- ---- the same numbers below 16

abbrev any : ℕ → List ℕ → Bool
any p ns = list_any (λ n. n == p) ns

any_push : (p m : ℕ) (ns : List ℕ) → any p (ns ++ (m ∷ [])) ≡ (any p ns || (m == p))
any_push p m [] = grind (arith, nat_tests)
any_push p m (n ∷ ns) = grind (arith, nat_tests, any_push p m ns)

any_note : (p n : ℕ) (kept : List ℕ) → p < 16 → any p (note kept n) ≡ (any p kept || (n == p))
any_note p n kept low =
    elim (any (min n 16) kept) as (λ b. any (min n 16) kept ≡ b → any p (cond b kept (kept ++ (min n 16 ∷ []))) ≡ (any p kept || (n == p))) [
      | true ↦ λ e. grind (arith, nat_tests, e)
      | false ↦ λ e. grind (arith, nat_tests, any_push p (min n 16) kept)
    ] refl

any_behind : (p : ℕ) (kept ns : List ℕ) → p < 16 → any p (noted_behind kept ns) ≡ (any p kept || any p ns)
any_behind p kept [] low = grind (arith, nat_tests)
any_behind p kept (n ∷ ns) low = grind (arith, nat_tests, any_behind p (note kept n) ns low, any_note p n kept low)

marked_more : (ns : List ℕ) (p : ℕ) → marked ns (p + 1) ≡ marked ns p ++ (any p ns ∷ [])
marked_more ns p = map-range_with_len_more (λ q. any q ns) 0 p p (omega arith)

pub marked_noted : (ns : List ℕ) (count : ℕ) → count ≤ 16 → marked (noted ns) count ≡ marked ns count
marked_noted ns zero few = refl
marked_noted ns (suc p) few = grind (
  arith,
  nat_tests,
  marked_more (noted ns) p,
  marked_more ns p,
  marked_noted ns p (omega arith),
  any_behind p [] ns (omega arith),
)

-- ---- the same bounds up to 16

abbrev below : ℕ → List ℕ → Bool
below c ns = list_all (λ n. nat_lt n c) ns

below_push : (c m : ℕ) (ns : List ℕ) → below c (ns ++ (m ∷ [])) ≡ (below c ns && nat_lt m c)
below_push c m [] = grind (arith, nat_tests)
below_push c m (n ∷ ns) = grind (arith, nat_tests, below_push c m ns)

any_below : (c m : ℕ) (ns : List ℕ) → any m ns ≡ true → below c ns ≡ true → m < c
any_below c m [] e h = absurd cc
any_below c m (n ∷ ns) e h = grind (arith, nat_tests, any_below c m ns)

below_note : (c n : ℕ) (kept : List ℕ) → c ≤ 16 → below c (note kept n) ≡ (below c kept && nat_lt n c)
below_note c n kept few =
    elim (any (min n 16) kept) as (λ b. any (min n 16) kept ≡ b → below c
    (cond b kept (kept ++ (min n 16 ∷ []))) ≡ (below c kept && nat_lt n c)) [
      | true ↦ λ e. grind (arith, nat_tests, any_below c (min n 16) kept e)
      | false ↦ λ e. grind (arith, nat_tests, below_push c (min n 16) kept)
    ] refl

below_behind : (c : ℕ) (kept ns : List ℕ) → c ≤ 16 → below c (noted_behind kept ns) ≡ (below c kept && below c ns)
below_behind c kept [] few = grind (arith, nat_tests)
below_behind c kept (n ∷ ns) few = grind (arith, nat_tests, below_behind c (note kept n) ns few, below_note c n kept few)

all_from_below : (c : ℕ) (ns : List ℕ) → below c ns ≡ true → All (λ n. n < c) ns
all_from_below c ns h = λ k d lt. ltb-true (get_or ns k d) c (AllPass-from_list_all (λ n. nat_lt n c) ns h k d lt)

below_from_all : (c : ℕ) (ns : List ℕ) → All (λ n. n < c) ns → below c ns ≡ true
below_from_all c ns h = list_all-from_AllPass (λ n. nat_lt n c) ns (λ k d lt. lt-ltb (get_or ns k d) c (h k d lt))

pub noted_below : (ns : List ℕ) (count : ℕ) → count ≤ 16 → All (λ n. n < count) (noted ns) → All (λ n. n < count) ns
noted_below ns count few all = all_from_below count ns (sym (below_behind count [] ns few) ∙ below_from_all count (noted ns) all)

pub below_noted : (ns : List ℕ) (count : ℕ) → count ≤ 16 → All (λ n. n < count) ns → All (λ n. n < count) (noted ns)
below_noted ns count few all = all_from_below count (noted ns) (below_behind count [] ns few ∙ below_from_all count ns all)
