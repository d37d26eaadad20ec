-- Numbers that literals spell.
use Rattle.pg_aiger.proofs.Common.{◌≡◌, ℕ, zero, suc, ◌+◌, ◌*◌, ◌/◌, ◌%◌, ◌^◌, ◌<◌, Bool, true, false, cond, eqb, List, [], ◌∷◌, length}
use Rattle.pg_aiger.proofs.Common.{get_or, arith, refl, sym, ap, ◌∙◌, pow-succ', div-div-eq-div-mul, mod-eq_of_lt, mod-pow-add, Valuation}
use Rattle.pg_aiger.proofs.Common.{value, bit, HaveBits, number_of}

-- the bits of a half are the higher bits
bit_half : (n j : ℕ) → bit (n / 2) j ≡ bit n (suc j)
bit_half n j = ap (λ m. eqb (m % 2) 1) (div-div-eq-div-mul n 2 (2 ^ j) ∙ ap (λ p. n / p) (sym (pow-succ' 2 j)))

pub number_low : (v : Valuation) (literals : List ℕ) (n : ℕ) → HaveBits v literals n → number_of v literals ≡ n % 2 ^ length literals
number_low v [] n have = omega arith
number_low v (literal ∷ rest) n have =
    ap (λ m. cond (value v literal) 1 0 + 2 * m) (number_low v rest (n / 2) (λ j l. have (suc j) (omega arith) ∙ sym (bit_half n j)))
    ∙ ap (λ b. cond b 1 0 + 2 * (n / 2 % 2 ^ length rest)) (have 0 (omega arith))
    ∙ weigh (n / 2 ^ 0 % 2) (n % 2) (let one : n / 2 ^ 0 ≡ n = omega arith in ap (λ m. m % 2) one) (omega arith)
    ∙ sym split
  where
    weigh : (b c : ℕ) → b ≡ c → b < 2 → cond (eqb b 1) 1 0 + 2 * (n / 2 % 2 ^ length rest) ≡ c + 2 * (n / 2 % 2 ^ length rest)
    weigh zero c e l = omega arith
    weigh (suc zero) c e l = omega arith
    weigh (suc (suc b)) c e l = absurd (omega arith)

    split : n % 2 ^ suc (length rest) ≡ n % 2 + 2 * (n / 2 % 2 ^ length rest)
    split =
        let more : suc (length rest) ≡ length rest + 1 = omega arith in
        let parts : n % 2 ^ (length rest + 1) ≡ (n / 2 ^ 1 % 2 ^ length rest) * 2 ^ 1 + n % 2 ^ 1 = mod-pow-add n (length rest) 1 in
        ap (λ i. n % 2 ^ i) more ∙ parts ∙ (omega arith)

-- literals whose values are the bits of a number spell it
pub number_is : (v : Valuation) (literals : List ℕ) (n : ℕ) → n < 2 ^ length literals → HaveBits v literals n → number_of v literals ≡ n
number_is v literals n lt have = number_low v literals n have ∙ mod-eq_of_lt lt

-- the same literals, of the same values
pub number_same : (u v : Valuation) (first second : List ℕ) → length first ≡ length second
    → ((j : ℕ) → j < length first → value u (get_or first j 0) ≡ value v (get_or second j 0)) → number_of u first ≡ number_of v second
number_same u v [] [] e same = refl
number_same u v [] (m ∷ second) e same = absurd (omega arith)
number_same u v (l ∷ first) [] e same = absurd (omega arith)
number_same u v (l ∷ first) (m ∷ second) e same =
    ap (λ b. cond b 1 0 + 2 * number_of u first) (same 0 (omega arith))
    ∙ ap (λ n. cond (value v m) 1 0 + 2 * n) (number_same u v first second (omega arith) (λ j l. same (suc j) (omega arith)))

-- the bits of the number that literals spell are their values
pub number_bit : (v : Valuation) (literals : List ℕ) (j : ℕ) → j < length literals → value v (get_or literals j 0) ≡ bit (number_of v literals) j
number_bit v [] j l = absurd (omega arith)
number_bit v (literal ∷ rest) zero l = low (value v literal)
  where
    low : (b : Bool) → b ≡ bit (cond b 1 0 + 2 * number_of v rest) 0
    low true = let e : (1 + 2 * number_of v rest) / 2 ^ 0 % 2 ≡ 1 = omega arith in rw e refl
    low false = let e : (0 + 2 * number_of v rest) / 2 ^ 0 % 2 ≡ 0 = omega arith in rw e refl
number_bit v (literal ∷ rest) (suc j) l =
    number_bit v rest j (omega arith) ∙ ap (λ n. bit n j) (sym (half (value v literal))) ∙ bit_half (cond (value v literal) 1 0 + 2 * number_of v rest) j
  where
    half : (b : Bool) → (cond b 1 0 + 2 * number_of v rest) / 2 ≡ number_of v rest
    half true = omega arith
    half false = omega arith
