-- Words of sixty-four bits, and what they say of letters.
use Rattle.pg_hoa.proofs.Common.{◌≡◌, ℕ, suc, zero, ◌+◌, ◌-◌, ◌*◌, ◌^◌, ◌<◌, ◌≤◌, min, max, Bool, true, false, cond, ◌&&◌, ◌||◌, ◌==◌, List}
use Rattle.pg_hoa.proofs.Common.{[], ◌∷◌, ◌++◌, map, length, get_or, set, replicate, refl, sym, ap, subst, inl, inr, ◌∙◌, arith, bit_at}
use Rattle.pg_hoa.proofs.Common.{w64, bit_or, bit_and, bit_at_and, bit_at_or, bit_at_not, bit_at-lt, bit_at_ones, bit_at-zero}
use Rattle.pg_hoa.proofs.Common.{bit_at_cat_low, bit_at_cat_high, bit_at_above, Decides-below_and, Decides-eqb, leb_tells, nat_tests}
use Rattle.pg_hoa.proofs.Common.{reverse-append, get_or-replicate, get_or-set_same, get_or-set_other, truth, truth_in, on_at, truths}

-- ---- bits

below_two : (P : ℕ → Type 0) → P 0 → P 1 → (a : ℕ) → a < 2 → P a
below_two P p q zero h = p
below_two P p q (suc zero) h = q
below_two P p q (suc (suc a)) h = absurd (omega arith)

both_bits : (a b : ℕ) → a < 2 → b < 2 → (min a b == 1) ≡ ((a == 1) && (b == 1))
both_bits a b h k = grind (arith, nat_tests)

either_bits : (a b : ℕ) → a < 2 → b < 2 → (max a b == 1) ≡ ((a == 1) || (b == 1))
either_bits a b h k = grind (arith, nat_tests)

not_bit : (a : ℕ) → a < 2 → (1 - a == 1) ≡ cond (a == 1) false true
not_bit a h = below_two (λ a. (1 - a == 1) ≡ cond (a == 1) false true) refl refl a h

pub truth_and : (x y j : ℕ) → truth (bit_and x y) j ≡ (truth x j && truth y j)
truth_and x y j = ap (λ b. b == 1) (bit_at_and x y j) ∙ both_bits (bit_at x j) (bit_at y j) (bit_at-lt x j) (bit_at-lt y j)

pub truth_or : (x y j : ℕ) → truth (bit_or x y) j ≡ (truth x j || truth y j)
truth_or x y j = ap (λ b. b == 1) (bit_at_or x y j) ∙ either_bits (bit_at x j) (bit_at y j) (bit_at-lt x j) (bit_at-lt y j)

pub truth_not : (x j : ℕ) → x < 2 ^ 64 → j < 64 → truth (18446744073709551615 - x) j ≡ cond (truth x j) false true
truth_not x j h k = ap (λ b. b == 1) (bit_at_not w64 x j h k) ∙ not_bit (bit_at x j) (bit_at-lt x j)

pub truth_all : (j : ℕ) → j < 64 → truth 18446744073709551615 j ≡ true
truth_all j h = ap (λ b. b == 1) (bit_at_ones 64 j h)

pub truth_none : (j : ℕ) → truth 0 j ≡ false
truth_none j = ap (λ b. b == 1) (bit_at-zero j)

pub not_one : (a : ℕ) → (a ≡ 1 → ⊥) → (a == 1) ≡ false
not_one zero n = refl
not_one (suc zero) n = absurd (n refl)
not_one (suc (suc a)) n = grind (arith, nat_tests)

-- ---- masks

-- whether the word has at j, for each j below the bound, bit a of j
abbrev has_bits : ℕ → ℕ → ℕ → Bool
has_bits word a zero = true
has_bits word a (suc n) = (bit_at word n == bit_at n a) && has_bits word a n

pub mask_low : (word a block p : ℕ) → p ≡ a → a < 6 → has_bits word a 64 ≡ true → (j : ℕ) → j < 64 → truth word j ≡ on_at block j p
mask_low word a block p is low e j h =
    let same : bit_at word j ≡ bit_at j a =
    (Decides-below_and (λ j. bit_at word j == bit_at j a) (λ j. bit_at word j ≡ bit_at j a) (has_bits word a)
    (λ j. Decides-eqb (bit_at word j) (bit_at j a)) refl (λ n. refl) 64).0 e j h in
    ap (λ b. b == 1) (same ∙ sym (bit_at_cat_low block 6 j a low)) ∙ ap (on_at block j) (sym is)

pub on_high : (block j a : ℕ) → 6 ≤ a → j < 64 → on_at block j a ≡ (bit_at block (a - 6) == 1)
on_high block j a high h = ap (λ b. b == 1) (bit_at_cat_high block 6 j a h high)

pub on_above : (block j a : ℕ) → block < 1024 → j < 64 → 16 ≤ a → on_at block j a ≡ false
on_above block j a few h high =
    let small : block * 64 + j < 65536 = omega arith in
    ap (λ b. b == 1) (bit_at_above (block * 64 + j) 16 a small high)

-- ---- runs

pub zeros_say : (n k j : ℕ) → k < n → truth_in (replicate n 0) k j ≡ false
zeros_say n k j h = ap (λ w. truth w j) (get_or-replicate n k 0 0 h) ∙ truth_none j

-- one word more, in a list of words
pub one_more_word : (Says : ℕ → ℕ → Type 0) (words : List ℕ) (k w : ℕ) → k < length words → ((i : ℕ) → i < k → Says (get_or words i 0) i)
    → Says w k → (i : ℕ) → i < k + 1 → Says (get_or (set words k w) i 0) i
one_more_word Says words k w h before here i below = elim (leb_tells k i) [
  | inl p ↦
      let is : i ≡ k = omega (arith, below, p.1) in
      let there : get_or (set words k w) i 0 ≡ w = ap (λ n. get_or (set words k w) n 0) is ∙ get_or-set_same words k w 0 h in
      subst (λ n. Says (get_or (set words k w) i 0) n) (sym is) (subst (λ v. Says v k) (sym there) here)
  | inr p ↦
      let other : (i ≡ k → ⊥) = λ e. absurd (omega (arith, p.1, e)) in
      subst (λ v. Says v i) (sym (get_or-set_other words k i w 0 other)) (before i (omega (arith, p.1)))
]

pub other_words : (words : List ℕ) (k w i : ℕ) → k + 1 ≤ i → get_or (set words k w) i 0 ≡ get_or words i 0
other_words words k w i h = get_or-set_other words k i w 0 (λ e. absurd (omega (arith, h, e)))

-- ---- stacks

pub truths_push : (k j : ℕ) (stack : List (List ℕ)) (words : List ℕ)
    → truths k j (stack ++ (words ∷ [])) ≡ truth_in words k j ∷ truths k j stack
unfolding truths
truths_push k j stack words = ap (map (λ words. truth_in words k j)) (reverse-append stack (words ∷ []))

pub truths_none : (k j : ℕ) → truths k j [] ≡ []
unfolding truths
truths_none k j = refl

-- ---- operations
