-- Digits, read one after another.
use Rattle.pg_text.proofs.Common.{◌≡◌, ℕ, ◌+◌, ◌-◌, ◌*◌, ◌^◌, ◌≤◌, ◌<◌, true, false, List, [], ◌∷◌, take, drop, Some, None, length, get_or}
use Rattle.pg_text.proofs.Common.{arith, refl, sym, subst, nat_tests, prefix_len, take_while, take_rest, number, is_digit, value_of}
use Rattle.pg_text.proofs.Common.{number_at, one_more, none_more, value_from, value_grows, ◌%◌, inl, inr, cases_lt, false, drop_more, add-one, pow-le-pow_right, pow-succ'}

-- of the number at the front of the bytes digits of this value are read, and this is the rest
pub record IsReading (bytes : List ℕ) (value : ℕ) (rest : List ℕ) : Type 0 where
  pub whole : value_from value (take_while is_digit rest) ≡ value_of (take_while is_digit bytes)
  pub behind : drop (prefix_len is_digit rest) rest ≡ drop (prefix_len is_digit bytes) bytes

one_digit : (bytes : List ℕ) (value b : ℕ) (rest : List ℕ) → is_digit b ≡ true → IsReading bytes value (b ∷ rest) → IsReading bytes (10 * value + (b - 48)) rest
one_digit bytes value b rest holds r = grind (arith, nat_tests, one_more is_digit b rest holds)

-- one digit more
pub reads_digit : (bytes : List ℕ) (value : ℕ) (rest : List ℕ) → 1 ≤ length rest → is_digit (get_or rest 0 0) ≡ true
    → IsReading bytes value rest → IsReading bytes (10 * value + (get_or rest 0 0 - 48)) (take (length rest - 1) (drop 1 rest))
reads_digit bytes value [] some holds r = absurd (omega arith)
reads_digit bytes value (b ∷ rest) some holds r = subst (IsReading bytes (10 * value + (b - 48))) (sym (take_rest (b ∷ rest) 1))
    (one_digit bytes value b rest holds r)

no_digits : (bytes : List ℕ) → (1 ≤ length bytes → is_digit (get_or bytes 0 0) ≡ false) → prefix_len is_digit bytes ≡ 0
no_digits [] h = refl
no_digits (b ∷ bytes) h = none_more is_digit b bytes (h (omega arith))

-- the digits end here
pub number_ends : (bytes : List ℕ) (value : ℕ) (rest : List ℕ) → (1 ≤ length rest → is_digit (get_or rest 0 0) ≡ false) → value < 2 ^ 32
    → IsReading bytes value rest → number_at bytes ≡ Some (number value, rest)
unfolding number_at
number_ends bytes value rest ends small r = grind (arith, nat_tests, no_digits rest ends)

-- the digits so far write a number that is too large
pub number_over : (bytes : List ℕ) (value : ℕ) (rest : List ℕ) → 2 ^ 32 ≤ value → IsReading bytes value rest → number_at bytes ≡ None
unfolding number_at
number_over bytes value rest large r = grind (arith, nat_tests, value_grows value (take_while is_digit rest))

-- the digit at a place, behind those in front of it
pub reads_at : (bytes : List ℕ) (value i : ℕ) → i < length bytes → is_digit (get_or bytes i 0) ≡ true → IsReading bytes value (drop i bytes)
    → IsReading bytes (10 * value + (get_or bytes i 0 - 48)) (drop (i + 1) bytes)
reads_at bytes value i within holds r =
    one_digit bytes value (get_or bytes i 0) (drop (i + 1) bytes) holds (subst (IsReading bytes value) (drop_more bytes i 0 within) r)

-- the first digit
pub reads_first : (bytes : List ℕ) → 1 ≤ length bytes → is_digit (get_or bytes 0 0) ≡ true → IsReading bytes (get_or bytes 0 0 - 48) (drop 1 bytes)
reads_first bytes some holds =
    let same : 10 * 0 + (get_or bytes 0 0 - 48) ≡ get_or bytes 0 0 - 48 = omega arith in
    subst (λ (value : ℕ). IsReading bytes value (drop 1 bytes)) same (reads_at bytes 0 0 some holds (record { whole = refl; behind = refl }))

-- the digits end at a place
pub ends_at : (bytes : List ℕ) (value i : ℕ) → i < length bytes → is_digit (get_or bytes i 0) ≡ false → value < 2 ^ 32
    → IsReading bytes value (drop i bytes) → number_at bytes ≡ Some (number value, drop i bytes)
ends_at bytes value i within fails small r =
    number_ends bytes value (drop i bytes)
    (λ _. subst (λ (rest : List ℕ). is_digit (get_or rest 0 0) ≡ false) (sym (drop_more bytes i 0 within)) fails) small r

-- what at most seven digits write is small
pub few_are_small : (value i : ℕ) → value < 10 ^ i → i < 8 → value < 10 ^ 7
few_are_small value i small few = let bound : 10 ^ i ≤ 10 ^ 7 = pow-le-pow_right {n = 10} (omega arith) {i = i} {j = 7} (omega arith) in omega arith

-- and a digit more
pub one_more_is_small : (value i n : ℕ) → value < 10 ^ i → n < 10 → 10 * value + n < 10 ^ (i + 1)
one_more_is_small value i n small digit = let tens : 10 ^ (i + 1) ≡ 10 * 10 ^ i = rw add-one (pow-succ' 10 i) in omega arith

-- what a byte is above '0', with wrapping
pub digit_is : (b n : ℕ) → b < 2 ^ 8 → n ≡ (b + (2 ^ 8 - 48)) % 2 ^ 8 → n < 10 → (is_digit b ≡ true) × (n ≡ b - 48)
digit_is b n byte is small =
    let low : 48 ≤ b = omega arith in
    let high : b ≤ 57 = omega arith in
    (grind (arith, nat_tests), omega arith)

pub no_digit_is : (b n : ℕ) → b < 2 ^ 8 → n ≡ (b + (2 ^ 8 - 48)) % 2 ^ 8 → 10 ≤ n → is_digit b ≡ false
no_digit_is b n byte is large = elim (cases_lt b 48) [ inl low ↦ grind (arith, nat_tests) | inr low ↦ let high : 57 < b = omega arith in grind (arith, nat_tests) ]
