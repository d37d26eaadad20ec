-- Literals that spell a number.
use Rattle.pg_aiger.proofs.Common.{◌≡◌, ℕ, zero, suc, ◌+◌, ◌*◌, ◌/◌, ◌%◌, ◌^◌, ◌<◌, inl, inr, Bool, true, false, cond, eqb, not, ◌&&◌}
use Rattle.pg_aiger.proofs.Common.{arith, refl, sym, subst, ap, ◌∙◌, cases_eq, eq-eqb, ne_eqb, mod-pow-add, pow-suc, Valuation, value}
use Rattle.pg_aiger.proofs.Common.{Drafted, Extends, number_at}
use Rattle.pg_aiger.proofs.Gates.{even_value}

pub extends_self : (d : Drafted) → Extends 0 d d
extends_self d = record { base = refl; kept = λ v s. s; longer = omega arith; shorter = omega arith }

pub extends_more : (m n k : ℕ) (a b c : Drafted) → k ≡ m + n → Extends m a b → Extends n b c → Extends k a c
extends_more m n k a b c e x y = record {
  base = y.base ∙ x.base;
  kept = λ v s. x.kept v (y.kept v s);
  longer = (let p = x.longer in let q = y.longer in omega (arith, p, q));
  shorter = (let p = x.shorter in let q = y.shorter in omega (arith, p, q));
}

pub number_below : (v : Valuation) (first count : ℕ) → number_at v first count < 2 ^ count
number_below v first zero = omega arith
number_below v first (suc count) = go (v (first + count)) (number_below v first count)
  where
    go : (b : Bool) → number_at v first count < 2 ^ count → number_at v first count + cond b (2 ^ count) 0 < 2 ^ suc count
    go true h = rw (pow-suc 2 count) (omega arith)
    go false h = rw (pow-suc 2 count) (omega arith)

odd_value : (v : Valuation) (x : ℕ) → value v (2 * x + 1) ≡ not (v x)
odd_value v x =
    let a : (2 * x + 1) % 2 ≡ 1 = omega arith in
    let b : (2 * x + 1) / 2 ≡ x = omega arith in rw (a, b) refl

same_test : (a b c d : ℕ) → (a ≡ b → c ≡ d) → (c ≡ d → a ≡ b) → eqb a b ≡ eqb c d
same_test a b c d f g = elim (cases_eq a b) [
  | inl e ↦ eq-eqb a b e ∙ sym (eq-eqb c d (f e))
  | inr ne ↦ ne_eqb a b ne ∙ sym (ne_eqb c d (λ e. ne (g e)))
]

-- one more bit
bit_more : (n m p bit : ℕ) (b : Bool) → n < p → m < p → bit < 2
    → (eqb n m && cond (eqb bit 1) b (not b)) ≡ eqb (n + cond b p 0) (bit * p + m)
bit_more n m p zero true h k l = and_false (eqb n m) ∙ sym (ne_eqb (n + p) (0 * p + m) (λ e. omega arith))
  where
    and_false : (q : Bool) → (q && false) ≡ false
    and_false true = refl
    and_false false = refl
bit_more n m p zero false h k l = and_true (eqb n m) ∙ same_test n m (n + 0) (0 * p + m) (λ e. omega arith) (λ e. omega arith)
  where
    and_true : (q : Bool) → (q && true) ≡ q
    and_true true = refl
    and_true false = refl
bit_more n m p (suc zero) true h k l = and_true (eqb n m) ∙ same_test n m (n + p) (1 * p + m) (λ e. omega arith) (λ e. omega arith)
  where
    and_true : (q : Bool) → (q && true) ≡ q
    and_true true = refl
    and_true false = refl
bit_more n m p (suc zero) false h k l = and_false (eqb n m) ∙ sym (ne_eqb (n + 0) (1 * p + m) (λ e. omega arith))
  where
    and_false : (q : Bool) → (q && false) ≡ false
    and_false true = refl
    and_false false = refl
bit_more n m p (suc (suc bit)) b h k l = absurd (omega arith)

and_assoc : (a b c : Bool) → ((a && b) && c) ≡ (a && (b && c))
and_assoc true b c = refl
and_assoc false b c = refl

literal_of : (v : Valuation) (x bit negation : ℕ) → negation ≡ cond (eqb bit 1) 0 1 → value v (2 * x + negation) ≡ cond (eqb bit 1) (v x) (not (v x))
literal_of v x bit negation e = subst (λ n. value v (2 * x + n) ≡ cond (eqb bit 1) (v x) (not (v x))) (sym e) (go (eqb bit 1))
  where
    go : (b : Bool) → value v (2 * x + cond b 0 1) ≡ cond b (v x) (not (v x))
    go true = let z : 2 * x + 0 ≡ 2 * x = omega arith in ap (value v) z ∙ even_value v x
    go false = odd_value v x

pub match_more : (v : Valuation) (s : Bool) (first j number negation : ℕ) → negation ≡ cond (eqb (number / 2 ^ j % 2) 1) 0 1
    → ((s && eqb (number_at v first j) (number % 2 ^ j)) && value v (2 * (first + j) + negation))
    ≡ (s && eqb (number_at v first (suc j)) (number % 2 ^ suc j))
match_more v s first j number negation e =
    let bit : number / 2 ^ j % 2 < 2 = omega arith in
    let positive : 0 < 2 ^ j = (let h = number_below v first j in omega (arith, h)) in
    let low : number % 2 ^ j < 2 ^ j = mod_below number (2 ^ j) positive in
    let split : number % 2 ^ suc j ≡ (number / 2 ^ j % 2) * 2 ^ j + number % 2 ^ j =
    (let f : suc j ≡ 1 + j = omega arith in ap (λ i. number % 2 ^ i) f ∙ mod-pow-add number 1 j) in
    and_assoc s (eqb (number_at v first j) (number % 2 ^ j)) (value v (2 * (first + j) + negation))
    ∙ ap (λ q. s && (eqb (number_at v first j) (number % 2 ^ j) && q)) (literal_of v (first + j) (number / 2 ^ j % 2) negation e)
    ∙ ap (λ q. s && q) (bit_more (number_at v first j) (number % 2 ^ j) (2 ^ j) (number / 2 ^ j % 2) (v (first + j)) (number_below v first j) low bit)
    ∙ ap (λ i. s && eqb (number_at v first j + cond (v (first + j)) (2 ^ j) 0) i) (sym split)
  where
    mod_below : (a b : ℕ) → 0 < b → a % b < b
    mod_below a b h = grind arith
