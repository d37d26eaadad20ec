-- The names of a text are good names of propositions, and its formula speaks of no others.
use Rattle.std.proofs.Common.{◌≡◌, ℕ, suc, ◌+◌, ◌<◌, ◌≤◌, Bool, true, false, eqb, List, [], ◌∷◌, ◌++◌, length, drop, Option, Some, None}
use Rattle.std.proofs.Common.{refl, subst, ap, arith, if◌then◌else◌}
use Rattle.std.specs.Prelude.{◌||◌, nat_lt, codes, option_map}
use Rattle.std.specs.List.{AllByRecursion, fold, prefix_len, take_while}
use Rattle.std.specs.Str.{bytes_eq}
use Rattle.std.proofs.lemmas.Bool.{ltb-true, eqb-false}
use Rattle.std.proofs.lemmas.Bool.Decides.{nat_tests}
use Rattle.std.proofs.lemmas.List.{length-append}
use Rattle.pg_list_lemmas.proofs.Steps.{none_is_some}
use Rattle.pg_list_lemmas.proofs.Runs.{run_each, run_first, run_some}
use Rattle.pg_list_lemmas.specs.Bytes.{is_digit}
use Rattle.pg_hoa_automaton.specs.Automata.{IsNameByte, IsPropositionName}
use Rattle.pg_ltl.specs.declared.formula.Prefix.{Prefix}
use Rattle.pg_ltl.specs.declared.token.FormulaToken.{FormulaToken}
use Rattle.pg_ltl.specs.declared.token.FormulaToken.TheVariants.{Proposition, Constant, Before, Between, LeftParen, RightParen}
use Rattle.pg_ltl.specs.Formulas.{Formula, constant, proposition, bracket, one, two, SpeaksOf}
use Rattle.pg_ltl.specs.FormulaTexts.{lexemes}
use Rattle.pg_ltl.specs.Words.{Word, name, sign, is_start, is_inner, is_quoted, behind_blanks, word_or, reserved, bare_at, operator_of, makes_name}
use Rattle.pg_ltl.specs.Words.{lettered, closed_by_quote, quoted_at, behind, arrow_at, single, sign_at, word_at, Spells}
use Rattle.pg_ltl.specs.Texts.{Noted, note, noted, number_of, Spelt}

-- ---- lists

all_push : {A : Type 0} (P : A → Type 0) (xs : List A) (x : A) → AllByRecursion P xs → P x → AllByRecursion P (xs ++ (x ∷ []))
all_push P [] x all p = (p, tt)
all_push P (y ∷ xs) x all p = (all.0, all_push P xs x all.1 p)

all_left : {A : Type 0} (P : A → Type 0) (xs ys : List A) → AllByRecursion P (xs ++ ys) → AllByRecursion P xs
all_left P [] ys all = tt
all_left P (x ∷ xs) ys all = (all.0, all_left P xs ys all.1)

all_right : {A : Type 0} (P : A → Type 0) (xs ys : List A) → AllByRecursion P (xs ++ ys) → AllByRecursion P ys
all_right P [] ys all = all
all_right P (x ∷ xs) ys all = all_right P xs ys all.1

all_more : {A : Type 0} (P Q : A → Type 0) (xs : List A) → ((x : A) → P x → Q x) → AllByRecursion P xs → AllByRecursion Q xs
all_more P Q [] go all = tt
all_more P Q (x ∷ xs) go all = (go x all.0, all_more P Q xs go all.1)

-- ---- words

-- a token that is no proposition
abbrev IsOther : FormulaToken → Type 0
IsOther (Proposition p) = ⊥
IsOther t = Unit {0}

abbrev IsGood : Word → Type 0
IsGood (name w) = IsPropositionName w
IsGood (sign t) = IsOther t

abbrev OthersIf : Option FormulaToken → Type 0
OthersIf None = Unit {0}
OthersIf (Some t) = IsOther t

abbrev OtherFirst : Option (FormulaToken × List ℕ) → Type 0
OtherFirst None = Unit {0}
OtherFirst (Some x) = IsOther x.0

abbrev GoodFirst : Option (Word × List ℕ) → Type 0
GoodFirst None = Unit {0}
GoodFirst (Some x) = IsGood x.0

if_so : {A : Type 0} (P : A → Type 0) (b : Bool) (x y : A) → P x → P y → P (if b then x else y)
if_so P true x y h k = h
if_so P false x y h k = k

reserved_other : (w : List ℕ) → OthersIf (reserved w)
unfolding reserved
reserved_other w =
    if_so OthersIf (bytes_eq w (codes "true")) _ _ tt (if_so OthersIf (bytes_eq w (codes "false")) _ _ tt
    (if_so OthersIf (bytes_eq w (codes "xor")) _ _ tt (if_so OthersIf (bytes_eq w (codes "U")) _ _ tt
    (if_so OthersIf (bytes_eq w (codes "R")) _ _ tt (if_so OthersIf (bytes_eq w (codes "V")) _ _ tt
    (if_so OthersIf (bytes_eq w (codes "W")) _ _ tt (if_so OthersIf (bytes_eq w (codes "M")) _ _ tt tt)))))))

word_good : (w : List ℕ) (o : Option FormulaToken) → IsPropositionName w → OthersIf o → IsGood (word_or w o)
word_good w None good other = good
word_good w (Some t) good other = other

inner_byte : (b : ℕ) → is_inner b ≡ true → IsNameByte b
inner_byte b e = (grind (arith, nat_tests, e), grind (arith, nat_tests, e))

quoted_byte : (b : ℕ) → is_quoted b ≡ true → IsNameByte b
quoted_byte b e = (grind (arith, nat_tests, e), grind (arith, nat_tests, e))

start_inner : (b : ℕ) → is_start b ≡ true → is_inner b ≡ true
start_inner b e = ap (λ (x : Bool). x || is_digit b) e

bare_good : (b : ℕ) (rest : List ℕ) → is_start b ≡ true → IsGood (bare_at (b ∷ rest)).0
unfolding bare_at
bare_good b rest e =
    let w = take_while is_inner (b ∷ rest) in
    let first : w ≡ b ∷ take_while is_inner rest = run_first is_inner b rest (start_inner b e) in
    word_good w (reserved w) (
      λ none. let z : length w ≡ 0 = ap length none in
          let l : length w ≡ suc (length (take_while is_inner rest)) = ap length first in
          omega (arith, z, l),
      all_more (λ x. is_inner x ≡ true) IsNameByte w inner_byte (run_each is_inner (b ∷ rest)),
    ) (reserved_other w)

lettered_good : (o : Option Prefix) (b : ℕ) (rest : List ℕ) → is_start b ≡ true → IsGood (lettered o b rest).0
lettered_good None b rest e = bare_good b rest e
lettered_good (Some op) b rest e =
    if_so (λ (x : Word × List ℕ). IsGood x.0) (makes_name rest) (bare_at (b ∷ rest)) (sign (Before op), rest) (bare_good b rest e) tt

closed_good : (w bytes : List ℕ) → IsPropositionName w → GoodFirst (closed_by_quote w bytes)
closed_good w [] good = tt
closed_good w (b ∷ rest) good = if_so GoodFirst (eqb b 34) (Some (name w, rest)) None good tt

quoted_good : (bytes : List ℕ) → GoodFirst (quoted_at bytes)
unfolding quoted_at
quoted_good bytes =
    let n = prefix_len is_quoted bytes in
    let w = take_while is_quoted bytes in
    elim (eqb n 0) as (λ c. eqb n 0 ≡ c → GoodFirst (if c then None else closed_by_quote w (drop n bytes))) [
      | true ↦ λ e. tt
      | false ↦ λ e. closed_good w (drop n bytes) (
        run_some is_quoted bytes (eqb-false n 0 e),
        all_more (λ x. is_quoted x ≡ true) IsNameByte w quoted_byte (run_each is_quoted bytes),
      )
    ] refl

behind_other : (b : ℕ) (t : FormulaToken) (bytes : List ℕ) → IsOther t → OtherFirst (behind b t bytes)
unfolding behind
behind_other b t [] other = tt
behind_other b t (c ∷ rest) other = if_so OtherFirst (eqb c b) (Some (t, rest)) None other tt

arrow_other : (bytes : List ℕ) → OtherFirst (arrow_at bytes)
unfolding arrow_at
arrow_other [] = tt
arrow_other (b ∷ rest) =
    if_so OtherFirst (eqb b 62) _ _ tt (if_so OtherFirst (eqb b 45 || eqb b 61) _ None (behind_other 62 _ rest tt) tt)

single_other : (b : ℕ) → OthersIf (single b)
unfolding single
single_other b =
    if_so OthersIf (eqb b 33 || eqb b 126) _ _ tt (if_so OthersIf (eqb b 40) _ _ tt (if_so OthersIf (eqb b 41) _ _ tt
    (if_so OthersIf (eqb b 48) _ _ tt (if_so OthersIf (eqb b 49) _ _ tt (if_so OthersIf (eqb b 59) _ _ tt
    (if_so OthersIf (eqb b 94) _ _ tt tt))))))

with_rest : (rest : List ℕ) (o : Option FormulaToken) → OthersIf o → OtherFirst (option_map (λ t. (t, rest)) o)
with_rest rest None h = tt
with_rest rest (Some t) h = h

sign_other : (b : ℕ) (rest : List ℕ) → OtherFirst (sign_at b rest)
unfolding sign_at
sign_other b rest =
    if_so OtherFirst (eqb b 38) _ _ tt (if_so OtherFirst (eqb b 124) _ _ tt
    (if_so OtherFirst (eqb b 45 || eqb b 61) _ _ (behind_other 62 _ rest tt) (if_so OtherFirst (eqb b 91) _ _ (behind_other 93 _ rest tt)
    (if_so OtherFirst (eqb b 60) _ _ (arrow_other rest) (with_rest rest (single b) (single_other b))))))

signed_good : (o : Option (FormulaToken × List ℕ)) → OtherFirst o → GoodFirst (option_map (λ x. (sign x.0, x.1)) o)
signed_good None h = tt
signed_good (Some x) h = h

first_good : (b : ℕ) (rest : List ℕ) → GoodFirst (word_at (b ∷ rest))
unfolding word_at
first_good b rest =
    elim (is_start b) as (λ c. is_start b ≡ c → GoodFirst (if c then Some (lettered (operator_of b) b rest)
    else (if eqb b 34 then quoted_at rest else option_map (λ x. (sign x.0, x.1)) (sign_at b rest)))) [
      | true ↦ λ e. lettered_good (operator_of b) b rest e
      | false ↦ λ e. if_so GoodFirst (eqb b 34) _ _ (quoted_good rest) (signed_good (sign_at b rest) (sign_other b rest))
    ] refl

there_good : (bytes : List ℕ) (w : Word) (rest : List ℕ) → word_at bytes ≡ Some (w, rest) → IsGood w
unfolding word_at
there_good [] w rest e = absurd (none_is_some (w, rest) e)
there_good (b ∷ bytes) w rest e = subst GoodFirst e (first_good b bytes)

spelt_good : (bytes : List ℕ) (words : List Word) → Spells bytes words → AllByRecursion IsGood words
spelt_good bytes [] spelt = tt
spelt_good bytes (w ∷ words) spelt = (there_good (behind_blanks bytes) w spelt.0 spelt.1, spelt_good spelt.0 words spelt.2)

-- ---- names and tokens

abbrev IsBelow : ℕ → FormulaToken → Type 0
IsBelow names (Proposition p) = p < names
IsBelow names t = Unit {0}

below_more : (m n : ℕ) (t : FormulaToken) → m ≤ n → IsBelow m t → IsBelow n t
below_more m n (Proposition p) le h = omega (arith, le, h)
below_more m n (Constant b) le h = tt
below_more m n (Before op) le h = tt
below_more m n (Between op) le h = tt
below_more m n LeftParen le h = tt
below_more m n RightParen le h = tt

other_below : (n : ℕ) (t : FormulaToken) → IsOther t → IsBelow n t
other_below n (Proposition p) h = absurd h
other_below n (Constant b) h = tt
other_below n (Before op) h = tt
other_below n (Between op) h = tt
other_below n LeftParen h = tt
other_below n RightParen h = tt

number_within : (w : List ℕ) (names : List (List ℕ)) → number_of w names ≤ length names
number_within w [] = omega arith
number_within w (known ∷ names) =
    let h = number_within w names in
    if_so (λ n. n ≤ length (known ∷ names)) (bytes_eq known w) 0 (suc (number_of w names)) (omega arith) (omega (arith, h))

record AreGood (n : Noted) : Type 0 where
  pub names : AllByRecursion IsPropositionName n.names
  pub tokens : AllByRecursion (IsBelow (length n.names)) n.tokens

named_good : (w : List ℕ) (n : Noted) → AreGood n → IsPropositionName w → AreGood (note n (name w))
named_good w n good is =
    let within = number_within w n.names in
    let k = number_of w n.names in
    elim (nat_lt k (length n.names)) as (λ c. nat_lt k (length n.names) ≡ c → AreGood (record {
      names = if c then n.names else n.names ++ (w ∷ []);
      tokens = n.tokens ++ (Proposition k ∷ []);
    })) [
      | true ↦ λ e. record {
        names = good.names;
        tokens = all_push (IsBelow (length n.names)) n.tokens (Proposition k) good.tokens (ltb-true k (length n.names) e);
      }
      | false ↦ λ e.
          let l : length (n.names ++ (w ∷ [])) ≡ length n.names + 1 = length-append n.names (w ∷ []) in
          record {
            names = all_push IsPropositionName n.names w good.names is;
            tokens = all_push (IsBelow (length (n.names ++ (w ∷ [])))) n.tokens (Proposition k)
                (all_more (IsBelow (length n.names)) (IsBelow (length (n.names ++ (w ∷ [])))) n.tokens
                (λ t. below_more (length n.names) (length (n.names ++ (w ∷ []))) t (omega (arith, l))) good.tokens)
                (omega (arith, l, within));
          }
    ] refl

note_good : (w : Word) (n : Noted) → AreGood n → IsGood w → AreGood (note n w)
note_good (name w) n good is = named_good w n good is
note_good (sign t) n good is = record {
  names = good.names;
  tokens = all_push (IsBelow (length n.names)) n.tokens t good.tokens (other_below (length n.names) t is);
}

noted_good : (words : List Word) (n : Noted) → AreGood n → AllByRecursion IsGood words → AreGood (fold note n words)
noted_good [] n good all = good
noted_good (w ∷ words) n good all = noted_good words (note n w) (note_good w n good all.0) all.1

speaks : (n : ℕ) (f : Formula) → AllByRecursion (IsBelow n) (lexemes f) → SpeaksOf n f
speaks n (constant value) all = tt
speaks n (proposition p) all = all.0
speaks n (bracket f) all = speaks n f (all_left (IsBelow n) (lexemes f) (RightParen ∷ []) all.1)
speaks n (one op f) all = speaks n f all.1
speaks n (two op f g) all = (
  speaks n f (all_left (IsBelow n) (lexemes f) (Between op ∷ lexemes g) all),
  speaks n g (all_right (IsBelow n) (lexemes f) (Between op ∷ lexemes g) all).1,
)

module _ (bytes : List ℕ) (names : List (List ℕ)) (f : Formula) (spelt : Spelt bytes names f) where
  good : AreGood (noted spelt.words)
  good = noted_good spelt.words (record { names = []; tokens = [] }) (record { names = tt; tokens = tt })
      (spelt_good bytes spelt.words spelt.spelt)

  pub good_names : AllByRecursion IsPropositionName names
  good_names = subst (AllByRecursion IsPropositionName) spelt.named good.names

  pub speaks_of_names : SpeaksOf (length names) f
  speaks_of_names =
      subst (λ (ns : List (List ℕ)). SpeaksOf (length ns) f) spelt.named
      (speaks (length (noted spelt.words).names) f (all_left (IsBelow (length (noted spelt.words).names)) (lexemes f) _
      (subst (AllByRecursion (IsBelow (length (noted spelt.words).names))) spelt.tokens.is good.tokens)))
