-- The values of headers: what is read is written there, and what is written there is read.
use Rattle.pg_hoa_syntax.proofs.Common.{◌≡◌, ℕ, suc, zero, ◌≤◌, ltb, true, false, List, [], ◌∷◌, ◌++◌, length, map, Some, refl, sym, ap, subst}
use Rattle.pg_hoa_syntax.proofs.Common.{◌∙◌, arith, append_assoc, inl, inr, nat_le, if◌then◌else◌, ◌==◌, list_all, AllByRecursion, append-nil}
use Rattle.pg_hoa_syntax.proofs.Common.{le-ltb, nat_tests, Lexeme, number, identifier, header, string, body, ampersand, stray, Character}
use Rattle.pg_hoa_syntax.proofs.Common.{IsPropositionName, IsNameByte, Value, numeral, word, quoted, value_lexeme, character_code, numeral_at}
use Rattle.pg_hoa_syntax.proofs.Common.{alone_at, numbers_from, skipped_from, is_name_byte, is_name, name_of, quoted_at, names_from, chosen}
use Rattle.pg_hoa_syntax.proofs.Common.{some, some_is, none, none_is_some}
use Rattle.pg_hoa_syntax.proofs.Lists.{both_true}
use Rattle.pg_hoa_syntax.proofs.Steps.{bind_some}

-- another header or the end of all stands at the front
abbrev pub Follows : List Lexeme → Type 0
Follows (header w ∷ rest) = Unit {0}
Follows (body ∷ rest) = Unit {0}
Follows _ = ⊥

-- what was read is a number up to the limit
pub record TakesNumeral (limit : ℕ) (tokens : List Lexeme) (x : ℕ × List Lexeme) : Type 0 where
  pub is : tokens ≡ number x.0 ∷ x.1
  pub few : x.0 ≤ limit

pub numeral_take : (limit : ℕ) (tokens : List Lexeme) (x : ℕ × List Lexeme) → numeral_at limit tokens ≡ Some x
    → TakesNumeral limit tokens x
unfolding numeral_at
numeral_take limit (number n ∷ rest) x e =
    elim (chosen (ltb limit n) none (some (n, rest)) (some x) e) [
      | inl c ↦ absurd (none_is_some x c.1)
      | inr c ↦
          let few : n ≤ limit = grind (arith, nat_tests) in
          subst (TakesNumeral limit (number n ∷ rest)) (some_is (n, rest) x c.1) (record { is = refl; few = few })
    ]
numeral_take limit _ x e = absurd (none_is_some x e)

pub numeral_again : (limit n : ℕ) (rest : List Lexeme) → n ≤ limit → numeral_at limit (number n ∷ rest) ≡ Some (n, rest)
unfolding numeral_at
numeral_again limit n rest few = rw (le-ltb limit n few) refl

pub alone_take : (tokens rest : List Lexeme) → alone_at tokens ≡ Some rest → tokens ≡ rest
unfolding alone_at
alone_take [] rest e = some_is [] rest e
alone_take (ampersand ∷ ts) rest e = absurd (none_is_some rest e)
alone_take (stray ∷ ts) rest e = absurd (none_is_some rest e)
alone_take (t ∷ ts) rest e = some_is (t ∷ ts) rest e

pub alone_again : (rest : List Lexeme) → Follows rest → alone_at rest ≡ Some rest
unfolding alone_at
alone_again (header w ∷ rest) f = refl
alone_again (body ∷ rest) f = refl
alone_again _ f = absurd f

-- ---- numbers

pub record TakesNumbers (before : List ℕ) (tokens : List Lexeme) (x : List ℕ × List Lexeme) : Type 0 where
  pub numbers : List ℕ
  pub is : tokens ≡ map number numbers ++ x.1
  pub added : x.0 ≡ before ++ numbers

no_numbers : (before : List ℕ) (tokens : List Lexeme) (x : List ℕ × List Lexeme) → some (before, tokens) ≡ some x
    → TakesNumbers before tokens x
no_numbers before tokens x e = grind (arith, nat_tests, some_is (before, tokens) x e, append-nil before)

pub numbers_take : (tokens : List Lexeme) (before : List ℕ) (x : List ℕ × List Lexeme) → numbers_from before tokens ≡ Some x
    → TakesNumbers before tokens x
unfolding numbers_from
numbers_take [] before x e = no_numbers before [] x e
numbers_take (number n ∷ rest) before x e =
    let more = numbers_take rest (before ++ (n ∷ [])) x e in
    record {
      numbers = n ∷ more.numbers;
      is = ap (λ (ts : List Lexeme). number n ∷ ts) more.is;
      added = more.added ∙ append_assoc before
          (n ∷ []) more.numbers;
    }
numbers_take (stray ∷ rest) before x e = absurd (none_is_some x e)
numbers_take (t ∷ rest) before x e = no_numbers before (t ∷ rest) x e

pub numbers_again : (ns before : List ℕ) (rest : List Lexeme) → Follows rest
    → numbers_from before (map number ns ++ rest) ≡ Some (before ++ ns, rest)
unfolding numbers_from
numbers_again [] before (header w ∷ rest) f = ap (λ (ns : List ℕ). some (ns, header w ∷ rest)) (sym (append-nil before))
numbers_again [] before (body ∷ rest) f = ap (λ (ns : List ℕ). some (ns, body ∷ rest)) (sym (append-nil before))
numbers_again [] before _ f = absurd f
numbers_again (n ∷ ns) before rest f =
    grind (arith, nat_tests, numbers_again ns (before ++ (n ∷ [])) rest f, append_assoc before (n ∷ []) ns)

-- ---- the values of a header that is skipped

pub record TakesValues (tokens rest : List Lexeme) : Type 0 where
  pub values : List Value
  pub is : tokens ≡ map value_lexeme values ++ rest

one_value : (v : Value) (tokens rest : List Lexeme) → TakesValues tokens rest → TakesValues (value_lexeme v ∷ tokens) rest
one_value v tokens rest t = record { values = v ∷ t.values; is = ap (λ (ts : List Lexeme). value_lexeme v ∷ ts) t.is }

pub skipped_take : (tokens rest : List Lexeme) → skipped_from tokens ≡ Some rest → TakesValues tokens rest
unfolding skipped_from
skipped_take [] rest e = record { values = []; is = some_is [] rest e }
skipped_take (number n ∷ ts) rest e = one_value (numeral n) ts rest (skipped_take ts rest e)
skipped_take (identifier w ∷ ts) rest e = one_value (word w) ts rest (skipped_take ts rest e)
skipped_take (string s ∷ ts) rest e = one_value (quoted s) ts rest (skipped_take ts rest e)
skipped_take (stray ∷ ts) rest e = absurd (none_is_some rest e)
skipped_take (t ∷ ts) rest e = record { values = []; is = some_is (t ∷ ts) rest e }

pub skipped_again : (vs : List Value) (rest : List Lexeme) → Follows rest → skipped_from (map value_lexeme vs ++ rest) ≡ Some rest
unfolding skipped_from
skipped_again [] (header w ∷ rest) f = refl
skipped_again [] (body ∷ rest) f = refl
skipped_again [] _ f = absurd f
skipped_again (numeral n ∷ vs) rest f = skipped_again vs rest f
skipped_again (word w ∷ vs) rest f = skipped_again vs rest f
skipped_again (quoted s ∷ vs) rest f = skipped_again vs rest f

-- ---- names

name_byte : (b : ℕ) → is_name_byte b ≡ true → IsNameByte b
name_byte b e = grind (arith, nat_tests, both_true (nat_le 32 b) (if b == 127 then false else true) e)

name_byte_again : (b : ℕ) → IsNameByte b → is_name_byte b ≡ true
name_byte_again b h = grind (arith, nat_tests)

name_bytes : (name : List ℕ) → list_all is_name_byte name ≡ true → AllByRecursion IsNameByte name
name_bytes [] e = tt
name_bytes (b ∷ name) e = let p = both_true (is_name_byte b) (list_all is_name_byte name) e in (name_byte b p.0, name_bytes name p.1)

name_bytes_again : (name : List ℕ) → AllByRecursion IsNameByte name → list_all is_name_byte name ≡ true
name_bytes_again [] h = refl
name_bytes_again (b ∷ name) h = rw (name_byte_again b h.0, name_bytes_again name h.1) refl

good_name : (name : List ℕ) → is_name name ≡ true → IsPropositionName name
good_name [] e = absurd cc
good_name (b ∷ name) e = (λ same. absurd cc, name_bytes (b ∷ name) e)

good_name_again : (name : List ℕ) → IsPropositionName name → is_name name ≡ true
good_name_again [] h = absurd (h.0 refl)
good_name_again (b ∷ name) h = name_bytes_again (b ∷ name) h.1

pub record TakesName (tokens : List Lexeme) (x : List ℕ × List Lexeme) : Type 0 where
  pub name : List Character
  pub is : tokens ≡ string name ∷ x.1
  pub said : x.0 ≡ map character_code name
  pub good : IsPropositionName x.0

pub quoted_take : (tokens : List Lexeme) (x : List ℕ × List Lexeme) → quoted_at tokens ≡ Some x → TakesName tokens x
unfolding quoted_at name_of
quoted_take (string s ∷ rest) x e =
    let name = map character_code s in
    let found = bind_some (if is_name name then some name else none) (λ (n : List ℕ). some (n, rest)) x e in
    elim (chosen (is_name name) (some name) none (some found.0) found.1) [
      | inl c ↦ subst (TakesName (string s ∷ rest)) (ap (λ (n : List ℕ). (n, rest)) (some_is name found.0 c.1) ∙ some_is
          (found.0, rest) x found.2) (record { name = s; is = refl; said = refl; good = good_name name c.0 })
      | inr c ↦ absurd (none_is_some found.0 c.1)
    ]
quoted_take _ x e = absurd (none_is_some x e)

quoted_again : (s : List Character) (rest : List Lexeme) → IsPropositionName (map character_code s)
    → quoted_at (string s ∷ rest) ≡ Some (map character_code s, rest)
unfolding quoted_at name_of
quoted_again s rest h = rw (good_name_again (map character_code s) h) refl

pub record TakesNames (n : ℕ) (before : List (List ℕ)) (tokens : List Lexeme) (x : List (List ℕ) × List Lexeme) : Type 0 where
  pub names : List (List Character)
  pub count : length names ≡ n
  pub is : tokens ≡ map string names ++ x.1
  pub added : x.0 ≡ before ++ map (map character_code) names
  pub good : AllByRecursion IsPropositionName (map (map character_code) names)

pub names_take : (n : ℕ) (before : List (List ℕ)) (tokens : List Lexeme) (x : List (List ℕ) × List Lexeme)
    → names_from n before tokens ≡ Some x → TakesNames n before tokens x
unfolding names_from
names_take zero before tokens x e = grind (arith, nat_tests, some_is (before, tokens) x e, append-nil before)
names_take (suc n) before tokens x e =
    let found = bind_some (quoted_at tokens) (λ (y : List ℕ × List Lexeme). names_from n (before ++ (y.0 ∷ [])) y.1) x e in
    let one = quoted_take tokens found.0 found.1 in
    let more = names_take n (before ++ (found.0.0 ∷ [])) found.0.1 x found.2 in
    record {
      names = one.name ∷ more.names;
      count = ap suc more.count;
      is = one.is ∙ ap (λ (ts : List Lexeme). string one.name ∷ ts) more.is;
      added = more.added ∙ append_assoc before (found.0.0 ∷ []) (map (map character_code) more.names)
          ∙ ap (λ (name : List ℕ). before ++ (name ∷ map (map character_code) more.names)) one.said;
      good = (subst IsPropositionName one.said one.good, more.good);
    }

pub names_again : (names : List (List Character)) (before : List (List ℕ)) (rest : List Lexeme)
    → AllByRecursion IsPropositionName (map (map character_code) names)
    → names_from (length names) before (map string names ++ rest) ≡ Some (before ++ map (map character_code) names, rest)
unfolding names_from
names_again [] before rest h = ap (λ (ns : List (List ℕ)). some (ns, rest)) (sym (append-nil before))
names_again (s ∷ names) before rest h = grind (
  arith,
  nat_tests,
  quoted_again s (map string names ++ rest) h.0,
  names_again names (before ++ (map character_code s ∷ [])) rest h.1,
  append_assoc before (map character_code s ∷ []) (map (map character_code) names),
)
