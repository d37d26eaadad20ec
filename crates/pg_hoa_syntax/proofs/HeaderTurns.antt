-- Token by token through the values of headers.
use Rattle.pg_hoa_syntax.proofs.Common.{◌≡◌, ℕ, suc, ◌<◌, Bool, true, false, eqb, List, [], ◌∷◌, ◌++◌, length, Option, Some, None, refl, sym}
use Rattle.pg_hoa_syntax.proofs.Common.{ap, ◌∙◌, arith, nat_tests, list_all, PartRefusal, Memory, Wrong, Lexeme, number, identifier, string, stray}
use Rattle.pg_hoa_syntax.proofs.Common.{first, ◌>>=◌, Fails, numeral_of, numbers_from, note, noted, noted_at, is_value, skipped_from}
use Rattle.pg_hoa_syntax.proofs.Common.{is_name_byte, is_name, quoted_at, names_from, some, some_is, none_is_some}
use Rattle.pg_hoa_syntax.proofs.Turning.{first_end, first_token}
use Rattle.pg_hoa_syntax.proofs.Noting.{noted_snoc}

-- no token begins with what can't be read
pub first_good : {T : Type 0} (ts rest : List Lexeme) → first ts ≡ Some (Some stray, rest) → T
first_good ts rest e = grind (arith, nat_tests, first_token ts stray rest e)

-- ---- numbers

numbers_none : (ns : List ℕ) (ts : List Lexeme) → first ts ≡ None → numbers_from ns ts ≡ None
unfolding numbers_from
numbers_none ns [] e = absurd cc
numbers_none ns (stray ∷ ts) e = refl
numbers_none ns (t ∷ ts) e = absurd cc

numbers_more : (ns : List ℕ) (ts after : List Lexeme) (t : Option Lexeme) (n : ℕ) → first ts ≡ Some (t, after) → numeral_of t ≡ Some n
    → numbers_from ns ts ≡ numbers_from (ns ++ (n ∷ [])) after
unfolding numbers_from
numbers_more ns ts after (Some (number m)) n e f = rw (first_token ts (number m) after e, ← some_is m n f) refl
numbers_more ns ts after t n e f = absurd (none_is_some n f)

numbers_end : (ns : List ℕ) (ts after : List Lexeme) (t : Option Lexeme) → first ts ≡ Some (t, after) → numeral_of t ≡ None
    → numbers_from ns ts ≡ Some (ns, ts)
unfolding numbers_from
numbers_end ns ts after None e f = rw ((first_end ts after e).0) refl
numbers_end ns ts after (Some (number m)) e f = absurd (none_is_some m (sym f))
numbers_end ns ts after (Some stray) e f = first_good ts after e
numbers_end ns ts after (Some t) e f = rw (first_token ts t after e) refl

-- ---- numbers as they are noted

-- numbers stand in front of the rest that are noted as these, and the rest is read behind them
pub record NumbersLeft (kept : List ℕ) (rest all : List Lexeme) : Type 0 where
  pub front : List ℕ
  pub same : kept ≡ noted front
  pub left : numbers_from front rest ≡ numbers_from [] all

pub none_noted : (all : List Lexeme) → NumbersLeft [] all all
none_noted all = record { front = []; same = refl; left = refl }

pub one_noted : (kept more : List ℕ) (rest after all : List Lexeme) (t : Option Lexeme) (n : ℕ) → NumbersLeft kept rest all
    → first rest ≡ Some (t, after) → numeral_of t ≡ Some n → more ≡ note kept n → NumbersLeft more after all
one_noted kept more rest after all t n l e f is = record {
  front = l.front ++ (n ∷ []);
  same = is ∙ ap (λ (ns : List ℕ). note ns n) l.same ∙ sym (noted_snoc [] l.front n);
  left = sym (numbers_more l.front rest after t n e f) ∙ l.left;
}

pub all_noted : (kept : List ℕ) (rest after all : List Lexeme) (t : Option Lexeme) → NumbersLeft kept rest all
    → first rest ≡ Some (t, after) → numeral_of t ≡ None → noted_at all ≡ Some (kept, rest)
unfolding noted_at
all_noted kept rest after all t l e f =
    ap (λ (o : Option (List ℕ × List Lexeme)). o >>= λ x. some (noted x.0, x.1)) (sym l.left ∙ numbers_end l.front rest after t e f)
    ∙ ap (λ (ns : List ℕ). some (ns, rest)) (sym l.same)

pub noted_fail : (refusal : PartRefusal) (kept : List ℕ) (rest all : List Lexeme) → NumbersLeft kept rest all → Fails refusal (first rest)
    → Fails refusal (noted_at all)
unfolding noted_at
noted_fail Memory kept rest all l h = tt
noted_fail (Wrong fault) kept rest all l h =
    ap (λ (o : Option (List ℕ × List Lexeme)). o >>= λ x. some (noted x.0, x.1)) (sym l.left ∙ numbers_none l.front rest h)

-- ---- values

skipped_none : (ts : List Lexeme) → first ts ≡ None → skipped_from ts ≡ None
unfolding skipped_from
skipped_none [] e = absurd cc
skipped_none (stray ∷ ts) e = refl
skipped_none (t ∷ ts) e = absurd cc

pub skipped_fail : (refusal : PartRefusal) (ts : List Lexeme) → Fails refusal (first ts) → Fails refusal (skipped_from ts)
skipped_fail Memory ts h = tt
skipped_fail (Wrong fault) ts h = skipped_none ts h

pub true_is_false : {T : Type 0} → true ≡ false → T
true_is_false e = absurd cc

pub skipped_more : (ts after : List Lexeme) (t : Option Lexeme) → first ts ≡ Some (t, after) → is_value t ≡ true
    → skipped_from ts ≡ skipped_from after
unfolding skipped_from
skipped_more ts after (Some (number n)) e f = rw (first_token ts (number n) after e) refl
skipped_more ts after (Some (identifier w)) e f = rw (first_token ts (identifier w) after e) refl
skipped_more ts after (Some (string s)) e f = rw (first_token ts (string s) after e) refl
skipped_more ts after t e f = true_is_false (sym f)

pub skipped_end : (ts after : List Lexeme) (t : Option Lexeme) → first ts ≡ Some (t, after) → is_value t ≡ false → skipped_from ts ≡ Some ts
unfolding skipped_from
skipped_end ts after None e f = rw ((first_end ts after e).0) refl
skipped_end ts after (Some (number m)) e f = true_is_false f
skipped_end ts after (Some (identifier w)) e f = true_is_false f
skipped_end ts after (Some (string s)) e f = true_is_false f
skipped_end ts after (Some stray) e f = first_good ts after e
skipped_end ts after (Some t) e f = rw (first_token ts t after e) refl

-- a token at least is taken
pub taken : (ts after : List Lexeme) (t : Lexeme) → first ts ≡ Some (Some t, after) → length after < length ts
taken ts after t e = rw (first_token ts t after e) (omega arith)

pub value_taken : (ts after : List Lexeme) (t : Option Lexeme) → first ts ≡ Some (t, after) → is_value t ≡ true → length after < length ts
value_taken ts after None e f = true_is_false (sym f)
value_taken ts after (Some t) e f = taken ts after t e

pub number_taken : (ts after : List Lexeme) (t : Option Lexeme) (n : ℕ) → first ts ≡ Some (t, after) → numeral_of t ≡ Some n
    → length after < length ts
number_taken ts after None n e f = absurd (none_is_some n f)
number_taken ts after (Some t) n e f = taken ts after t e

-- ---- names

pub name_is : (r : Bool) (name : List ℕ) → eqb (length name) 0 ≡ false → r ≡ list_all is_name_byte name → r ≡ is_name name
name_is r [] e f = true_is_false e
name_is r (b ∷ name) e f = f

pub names_more : (n m : ℕ) (names : List (List ℕ)) (tokens : List Lexeme) (x : List ℕ × List Lexeme) → n ≡ suc m → quoted_at tokens ≡ Some x
    → names_from n names tokens ≡ names_from m (names ++ (x.0 ∷ [])) x.1
unfolding names_from
names_more n m names tokens x same e = rw (same, e) refl

names_none : (n m : ℕ) (names : List (List ℕ)) (tokens : List Lexeme) → n ≡ suc m → quoted_at tokens ≡ None
    → names_from n names tokens ≡ None
unfolding names_from
names_none n m names tokens same e = rw (same, e) refl

pub names_fail : (refusal : PartRefusal) (n m : ℕ) (names : List (List ℕ)) (tokens : List Lexeme) → n ≡ suc m → Fails refusal (quoted_at tokens)
    → Fails refusal (names_from n names tokens)
names_fail Memory n m names tokens same h = tt
names_fail (Wrong fault) n m names tokens same h = names_none n m names tokens same h

pub names_end : (n : ℕ) (names : List (List ℕ)) (tokens : List Lexeme) → n ≡ 0 → names_from n names tokens ≡ Some (names, tokens)
unfolding names_from
names_end n names tokens same = rw same refl
