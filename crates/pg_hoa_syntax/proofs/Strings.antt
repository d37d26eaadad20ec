-- The bytes of a string, counted one character after another.
use Rattle.pg_hoa_syntax.proofs.Common.{◌≡◌, ℕ, ◌+◌, ◌<◌, eqb, List, [], ◌∷◌, length, Option, Some, None, refl, ap, subst, arith, inl, inr}
use Rattle.pg_hoa_syntax.proofs.Common.{nat_tests, ◌>>=◌, character_at, string_len, chosen, some, some_is, none, none_is_some}

-- so many bytes were counted before
abbrev pub further : ℕ → Option ℕ → Option ℕ
further n found = found >>= λ m. Some (m + n)

pub further_more : (n k : ℕ) (found : Option ℕ) → further n (further k found) ≡ further (n + k) found
further_more n k None = refl
further_more n k (Some m) = ap (λ (n : ℕ). some n) (omega arith)

-- a character takes a byte or two
pub record Characters (bytes : List ℕ) (x : ℕ × List ℕ) : Type 0 where
  pub len : length bytes ≡ x.0 + length x.1
  pub some_bytes : 0 < x.0
  pub counted : string_len bytes ≡ further x.0 (string_len x.1)

abbrev at : (bytes : List ℕ) (n : ℕ) (rest : List ℕ) (x : ℕ × List ℕ) → some (some (n, rest)) ≡ some (some x) → Characters bytes (n, rest)
    → Characters bytes x
at bytes n rest x e r = subst (Characters bytes) (some_is (n, rest) x (some_is (some (n, rest)) (some x) e)) r

pub character_takes : (bytes : List ℕ) (x : ℕ × List ℕ) → character_at bytes ≡ Some (Some x) → Characters bytes x
unfolding character_at string_len
character_takes [] x e = absurd (none_is_some (some x) e)
character_takes (b ∷ []) x e = grind (arith, nat_tests, chosen (eqb b 34) (some none) _ (some (some x)) e)
character_takes (b ∷ c ∷ bytes) x e =
    elim (chosen (eqb b 34) (some none) _ (some (some x)) e) [
      | inl p ↦ absurd (none_is_some x (some_is (none {A = ℕ × List ℕ}) (some x) p.1))
      | inr p ↦ elim (chosen (eqb b 92) (some (some (2, bytes))) (some (some (1, c ∷ bytes))) (some (some x)) p.1) [
        | inl d ↦ at (b ∷ c ∷ bytes) 2 bytes x d.1 (record { len = omega arith; some_bytes = omega arith; counted = rw (p.0, d.0) refl })
        | inr d ↦ at (b ∷ c ∷ bytes) 1 (c ∷ bytes) x d.1
            (record { len = omega arith; some_bytes = omega arith; counted = rw (p.0, d.0) refl })
      ]
    ]

pub string_fails : (bytes : List ℕ) → character_at bytes ≡ None → string_len bytes ≡ None
unfolding character_at string_len
string_fails [] e = refl
string_fails (b ∷ []) e = elim (chosen (eqb b 34) (some none) _ none e) [ inl c ↦ absurd cc | inr c ↦ rw c.0 refl ]
string_fails (b ∷ c ∷ bytes) e = grind (arith, nat_tests, chosen (eqb b 34) (some none) _ none e)

pub string_ends : (bytes : List ℕ) → character_at bytes ≡ Some None → (string_len bytes ≡ Some 0) × (0 < length bytes)
unfolding character_at string_len
string_ends [] e = absurd cc
string_ends (b ∷ []) e = grind (arith, nat_tests, chosen (eqb b 34) (some none) _ (some none) e)
string_ends (b ∷ c ∷ bytes) e = grind (arith, nat_tests, chosen (eqb b 34) (some none) _ (some none) e)
