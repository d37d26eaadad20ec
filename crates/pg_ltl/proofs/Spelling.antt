-- Word by word through a text.
use Rattle.std.proofs.Common.{◌≡◌, ℕ, zero, suc, ◌+◌, ◌<◌, ◌≤◌, Bool, true, false, cond, eqb, List, [], ◌∷◌, ◌++◌, length, get_or, take}
use Rattle.std.proofs.Common.{drop, Option, Some, None, refl, sym, subst, ap, ◌∙◌, arith, append_assoc, append-nil, if◌then◌else◌}
use Rattle.std.specs.Prelude.{◌||◌, nat_lt, option_map}
use Rattle.std.specs.List.{fold, prefix_len, take_while}
use Rattle.std.proofs.Math.Seq.{take-append_seam}
use Rattle.std.proofs.lemmas.List.{length-drop, length-append, length-take-le, take-append-drop}
use Rattle.std.proofs.lemmas.List.Sums.{fold-append}
use Rattle.pg_list_lemmas.proofs.Steps.{some_is, none_is_some}
use Rattle.pg_list_lemmas.specs.Bytes.{is_digit}
use Rattle.pg_ltl.specs.declared.formula.Prefix.{Prefix}
use Rattle.pg_ltl.specs.declared.token.FormulaToken.{FormulaToken}
use Rattle.pg_ltl.specs.declared.token.FormulaToken.TheVariants.{Before, Proposition}
use Rattle.pg_ltl.specs.Words.{Word, name, sign, is_space, is_start, is_inner, is_quoted, behind_blanks, bare_at, operator_of, makes_name}
use Rattle.pg_ltl.specs.Words.{lettered, closed_by_quote, quoted_at, without, behind, arrow_at, single, sign_at, word_at, Spells, Begins}
use Rattle.pg_ltl.specs.Texts.{Noted, note, noted, number_of}
use Rattle.pg_ltl.specs.declared.noting.Tokens.{Tokens}
use Rattle.pg_ltl.specs.Mirrors.Notes.{noted_in, Placed, HasPlaced}

-- ---- a word takes a byte at least

drop_less : {A : Type 0} (n : ℕ) (xs : List A) → length (drop n xs) ≤ length xs
drop_less n xs = let l = length-drop n xs in omega (arith, l)

pub blanks_less : (bytes : List ℕ) → length (behind_blanks bytes) ≤ length bytes
unfolding behind_blanks
blanks_less bytes = drop_less (prefix_len is_space bytes) bytes

start_inner : (b : ℕ) → is_start b ≡ true → is_inner b ≡ true
start_inner b e = ap (λ (x : Bool). x || is_digit b) e

bare_less : (b : ℕ) (rest : List ℕ) → is_start b ≡ true → length (bare_at (b ∷ rest)).1 ≤ length rest
unfolding bare_at
bare_less b rest e =
    let n : prefix_len is_inner (b ∷ rest) ≡ 1 + prefix_len is_inner rest =
    ap (λ (x : Bool). cond x (1 + prefix_len is_inner rest) 0) (start_inner b e) in
    let l = length-drop (prefix_len is_inner (b ∷ rest)) (b ∷ rest) in
    omega (arith, n, l)

lettered_less : (o : Option Prefix) (b : ℕ) (rest : List ℕ) → is_start b ≡ true → length (lettered o b rest).1 ≤ length rest
lettered_less None b rest e = bare_less b rest e
lettered_less (Some op) b rest e =
    elim (makes_name rest) as (λ c. length (if c then bare_at (b ∷ rest) else (sign (Before op), rest)).1
    ≤ length rest) [ true ↦ bare_less b rest e | false ↦ omega arith ]

-- what follows is no longer than these bytes
abbrev IsShorter : {A : Type 0} → ℕ → Option (A × List ℕ) → Type 0
IsShorter n None = Unit {0}
IsShorter n (Some x) = length x.1 ≤ n

shorter_if : {A : Type 0} (n : ℕ) (b : Bool) (x y : Option (A × List ℕ)) → IsShorter n x → IsShorter n y → IsShorter n (if b then x else y)
shorter_if n true x y h k = h
shorter_if n false x y h k = k

shorter_more : {A : Type 0} (m n : ℕ) (x : Option (A × List ℕ)) → m ≤ n → IsShorter m x → IsShorter n x
shorter_more m n None le h = tt
shorter_more m n (Some x) le h = omega (arith, le, h)

closed_less : (w bytes : List ℕ) → IsShorter (length bytes) (closed_by_quote w bytes)
closed_less w [] = tt
closed_less w (b ∷ rest) = shorter_if (length (b ∷ rest)) (eqb b 34) (Some (name w, rest)) None (omega arith) tt

quoted_less : (bytes : List ℕ) → IsShorter (length bytes) (quoted_at bytes)
unfolding quoted_at
quoted_less bytes =
    let n = prefix_len is_quoted bytes in
    shorter_if (length bytes) (eqb n 0) None (closed_by_quote (take_while is_quoted bytes) (drop n bytes)) tt
    (shorter_more (length (drop n bytes)) (length bytes) (closed_by_quote (take_while is_quoted bytes) (drop n bytes)) (drop_less n bytes)
    (closed_less (take_while is_quoted bytes) (drop n bytes)))

without_less : (b : ℕ) (bytes : List ℕ) → length (without b bytes) ≤ length bytes
unfolding without
without_less b [] = omega arith
without_less b (c ∷ rest) =
    elim (eqb c b) as (λ x. length (if x then rest else c ∷ rest) ≤ length (c ∷ rest)) [ true ↦ omega arith | false ↦ omega arith ]

behind_less : (b : ℕ) (t : FormulaToken) (bytes : List ℕ) → IsShorter (length bytes) (behind b t bytes)
unfolding behind
behind_less b t [] = tt
behind_less b t (c ∷ rest) = shorter_if (length (c ∷ rest)) (eqb c b) (Some (t, rest)) None (omega arith) tt

arrow_less : (bytes : List ℕ) → IsShorter (length bytes) (arrow_at bytes)
unfolding arrow_at
arrow_less [] = tt
arrow_less (b ∷ rest) =
    shorter_if (length (b ∷ rest)) (eqb b 62) _ _ (omega arith)
    (shorter_if (length (b ∷ rest)) (eqb b 45 || eqb b 61) _ None
    (shorter_more (length rest) (length (b ∷ rest)) _ (omega arith) (behind_less 62 _ rest)) tt)

single_less : (rest : List ℕ) (o : Option FormulaToken) → IsShorter (length rest) (option_map (λ t. (t, rest)) o)
single_less rest None = tt
single_less rest (Some t) = omega arith

sign_less : (b : ℕ) (rest : List ℕ) → IsShorter (length rest) (sign_at b rest)
unfolding sign_at
sign_less b rest =
    shorter_if (length rest) (eqb b 38) _ _ (without_less 38 rest)
    (shorter_if (length rest) (eqb b 124) _ _ (without_less 124 rest)
    (shorter_if (length rest) (eqb b 45 || eqb b 61) _ _ (behind_less 62 _ rest)
    (shorter_if (length rest) (eqb b 91) _ _ (behind_less 93 _ rest)
    (shorter_if (length rest) (eqb b 60) _ _ (arrow_less rest)
    (single_less rest (single b))))))

signed_less : (n : ℕ) (o : Option (FormulaToken × List ℕ)) → IsShorter n o → IsShorter n (option_map (λ x. (sign x.0, x.1)) o)
signed_less n None h = tt
signed_less n (Some x) h = h

word_less : (b : ℕ) (rest : List ℕ) → IsShorter (length rest) (word_at (b ∷ rest))
unfolding word_at
word_less b rest =
    elim (is_start b) as (λ c. is_start b ≡ c → IsShorter (length rest) (if c then Some (lettered (operator_of b) b rest)
    else (if eqb b 34 then quoted_at rest else option_map (λ x. (sign x.0, x.1)) (sign_at b rest)))) [
      | true ↦ λ e. lettered_less (operator_of b) b rest e
      | false ↦ λ e. shorter_if (length rest) (eqb b 34) _ _ (quoted_less rest) (signed_less (length rest) (sign_at b rest) (sign_less b rest))
    ] refl

word_takes : (bytes : List ℕ) (w : Word) (after : List ℕ) → word_at bytes ≡ Some (w, after) → length after < length bytes
unfolding word_at
word_takes [] w after e = absurd (none_is_some (w, after) e)
word_takes (b ∷ rest) w after e =
    let h : length after ≤ length rest = subst (IsShorter (length rest)) e (word_less b rest) in
    omega (arith, h)

pub word_shrinks : (rest : List ℕ) (w : Word) (after : List ℕ) → word_at (behind_blanks rest) ≡ Some (w, after) → length after < length rest
word_shrinks rest w after e =
    let h = word_takes (behind_blanks rest) w after e in
    let l = blanks_less rest in
    omega (arith, h, l)

-- ---- words before the rest

no_word : (w : Word) (rest : List ℕ) → word_at [] ≡ Some (w, rest) → ⊥
unfolding word_at
no_word w rest e = none_is_some (w, rest) e

pub noted-push : (words : List Word) (w : Word) → noted (words ++ (w ∷ [])) ≡ note (noted words) w
noted-push words w = fold-append note (record { names = []; tokens = [] }) words (w ∷ [])

placed_push : (len : ℕ) (bytes : List ℕ) (words : List Word) (offsets rest : List ℕ) (w : Word) (offset : ℕ) (after : List ℕ)
    → Placed len bytes words offsets rest → word_at (behind_blanks rest) ≡ Some (w, after) → offset + length (behind_blanks rest) ≡ len
    → Placed len bytes (words ++ (w ∷ [])) (offsets ++ (offset ∷ [])) after
placed_push len bytes [] [] rest w offset after placed e o = (
  after,
  subst (λ bs. word_at (behind_blanks bs) ≡ Some (w, after)) (sym placed) e,
  subst (λ (bs : List ℕ). offset + length (behind_blanks bs) ≡ len) (sym placed) o,
  refl,
)
placed_push len bytes (v ∷ words) (p ∷ offsets) rest w offset after placed e o =
    (placed.0, placed.1, placed.2, placed_push len placed.0 words offsets rest w offset after placed.3 e o)
placed_push len bytes words offsets rest w offset after placed e o = absurd placed

placed_less : (len : ℕ) (bytes : List ℕ) (words : List Word) (offsets rest : List ℕ) → Placed len bytes words offsets rest
    → length rest ≤ length bytes
placed_less len bytes [] [] rest placed = let e = ap length placed in omega (arith, e)
placed_less len bytes (w ∷ words) (offset ∷ offsets) rest placed =
    let less = placed_less len placed.0 words offsets rest placed.3 in
    let lt = word_shrinks bytes w placed.0 placed.1 in
    omega (arith, less, lt)
placed_less len bytes words offsets rest placed = absurd placed

pub placed_begins : (len : ℕ) (bytes : List ℕ) (words : List Word) (offsets rest : List ℕ) → Placed len bytes words offsets rest
    → Begins bytes words rest
placed_begins len bytes [] [] rest placed = placed
placed_begins len bytes (w ∷ words) (offset ∷ offsets) rest placed = (placed.0, placed.1, placed_begins len placed.0 words offsets rest placed.3)
placed_begins len bytes words offsets rest placed = absurd placed

pub placed_many : (len : ℕ) (bytes : List ℕ) (words : List Word) (offsets rest : List ℕ) → Placed len bytes words offsets rest
    → length offsets ≡ length words
placed_many len bytes [] [] rest placed = refl
placed_many len bytes (w ∷ words) (offset ∷ offsets) rest placed =
    let e = placed_many len placed.0 words offsets rest placed.3 in
    omega (arith, e)
placed_many len bytes words offsets rest placed = absurd placed

-- the word that begins at an offset
pub record IsAt (len : ℕ) (bytes : List ℕ) (words : List Word) (offset i : ℕ) : Type 0 where
  pub rest : List ℕ
  pub begins : Begins bytes (take i words) rest
  pub there : offset + length (behind_blanks rest) ≡ len
  pub word : Word
  pub after : List ℕ
  pub is : word_at (behind_blanks rest) ≡ Some (word, after)
  pub next : take (suc i) words ≡ take i words ++ (word ∷ [])

pub placed_at : (len : ℕ) (bytes : List ℕ) (words : List Word) (offsets rest : List ℕ) (i d : ℕ) → Placed len bytes words offsets rest
    → i < length offsets → IsAt len bytes words (get_or offsets i d) i
placed_at len bytes [] [] rest i d placed lt = absurd (omega (arith, lt))
placed_at len bytes (w ∷ words) (offset ∷ offsets) rest zero d placed lt =
    record { rest = bytes; begins = refl; there = placed.2; word = w; after = placed.0; is = placed.1; next = refl }
placed_at len bytes (w ∷ words) (offset ∷ offsets) rest (suc i) d placed lt =
    let at = placed_at len placed.0 words offsets rest i d placed.3 (omega (arith, lt)) in
    record {
      rest = at.rest;
      begins = (placed.0, placed.1, at.begins);
      there = at.there;
      word = at.word;
      after = at.after;
      is = at.is;
      next = ap (λ (ws : List Word). w ∷ ws) at.next;
    }
placed_at len bytes words offsets rest i d placed lt = absurd placed

pub has_nothing : (bytes : List ℕ) (t : Tokens) → t.names.items ≡ [] → t.tokens.items ≡ [] → t.offsets.items ≡ [] → HasPlaced bytes t bytes
has_nothing bytes t n k o = record {
  words = [];
  is = rw (n, k) refl;
  placed = subst (λ os. Placed (length bytes) bytes [] os bytes) (sym o) refl;
}

pub has_word : (bytes rest : List ℕ) (t u : Tokens) (w : Word) (after : List ℕ) (offset : ℕ) → HasPlaced bytes t rest
    → word_at (behind_blanks rest) ≡ Some (w, after) → offset + length (behind_blanks rest) ≡ length bytes
    → noted_in u ≡ note (noted_in t) w → u.offsets.items ≡ t.offsets.items ++ (offset ∷ []) → HasPlaced bytes u after
has_word bytes rest t u w after offset has e o n p = record {
  words = has.words ++ (w ∷ []);
  is = noted-push has.words w ∙ ap (λ m. note m w) has.is ∙ sym n;
  placed = subst (λ os. Placed (length bytes) bytes (has.words ++ (w ∷ [])) os after) (sym p)
      (placed_push (length bytes) bytes has.words t.offsets.items rest w offset after has.placed e o);
}

pub has_less : (bytes rest : List ℕ) (t : Tokens) → HasPlaced bytes t rest → length (behind_blanks rest) ≤ length bytes
has_less bytes rest t has =
    let l = placed_less (length bytes) bytes has.words t.offsets.items rest has.placed in
    let b = blanks_less rest in
    omega (arith, l, b)

-- ---- a text has one list of words

pub begins_only : (bytes : List ℕ) (words : List Word) (rest : List ℕ) (all : List Word) → Begins bytes words rest → Spells bytes all
    → (more : List Word) × (all ≡ words ++ more) × Spells rest more
begins_only bytes [] rest all begins spelt = (all, refl, subst (λ bs. Spells bs all) begins spelt)
begins_only bytes (w ∷ words) rest [] begins spelt =
    absurd (no_word w begins.0 (subst (λ bs. word_at bs ≡ Some (w, begins.0)) spelt begins.1))
begins_only bytes (w ∷ words) rest (v ∷ all) begins spelt =
    let same : (v, spelt.0) ≡ (w, begins.0) = some_is (v, spelt.0) (w, begins.0) (sym spelt.1 ∙ begins.1) in
    let more = begins_only begins.0 words rest all begins.2
    (subst (λ (bs : List ℕ). Spells bs all) (ap (λ (x : Word × List ℕ). x.1) same) spelt.2) in (
      more.0,
      ap (λ (x : Word × List ℕ). x.0 ∷ all) same ∙ ap (λ (ws : List Word). w ∷ ws) more.1,
      more.2,
    )

pub begins_all : (bytes : List ℕ) (words : List Word) (rest : List ℕ) → Begins bytes words rest → behind_blanks rest ≡ [] → Spells bytes words
begins_all bytes [] rest begins e = subst (λ bs. behind_blanks bs ≡ []) (sym begins) e
begins_all bytes (w ∷ words) rest begins e = (begins.0, begins.1, begins_all begins.0 words rest begins.2 e)

names_more : (w : Word) (n : Noted) → length n.names ≤ length (note n w).names
names_more (sign t) n = omega arith
names_more (name w) n =
    elim (nat_lt (number_of w n.names) (length n.names)) as (λ b. length n.names ≤ length (if b then n.names else n.names ++ (w ∷ []))) [
      | true ↦ omega arith
      | false ↦ let l = length-append n.names (w ∷ []) in omega (arith, l)
    ]

pub names_grow : (words : List Word) (n : Noted) → length n.names ≤ length (fold note n words).names
names_grow [] n = omega arith
names_grow (w ∷ words) n =
    let h = names_more w n in
    let k = names_grow words (note n w) in
    omega (arith, h, k)

tokens_more : (w : Word) (n : Noted) → (t : FormulaToken) × ((note n w).tokens ≡ n.tokens ++ (t ∷ []))
tokens_more (sign t) n = (t, refl)
tokens_more (name w) n = (Proposition (number_of w n.names), refl)

pub tokens_grow : (words : List Word) (n : Noted) → (more : List FormulaToken) × ((fold note n words).tokens ≡ n.tokens ++ more)
tokens_grow [] n = ([], sym (append-nil n.tokens))
tokens_grow (w ∷ words) n =
    let one = tokens_more w n in
    let rest = tokens_grow words (note n w) in
    (one.0 ∷ rest.0, rest.1 ∙ ap (λ (ts : List FormulaToken). ts ++ rest.0) one.1 ∙ append_assoc n.tokens (one.0 ∷ []) rest.0)

pub noted-append : (words more : List Word) → noted (words ++ more) ≡ fold note (noted words) more
noted-append words more = fold-append note (record { names = []; tokens = [] }) words more

tokens_counted : (words : List Word) (n : Noted) → length (fold note n words).tokens ≡ length n.tokens + length words
tokens_counted [] n = omega arith
tokens_counted (w ∷ words) n =
    let one = tokens_more w n in
    let e = ap length one.1 in
    let l = length-append n.tokens (one.0 ∷ []) in
    let h = tokens_counted words (note n w) in
    omega (arith, e, l, h)

pub length-noted : (words : List Word) → length (noted words).tokens ≡ length words
length-noted words = let h = tokens_counted words (record { names = []; tokens = [] }) in omega (arith, h)

-- the tokens of the first words are the first tokens
pub noted-take : (words : List Word) (i : ℕ) → i ≤ length words → (noted (take i words)).tokens ≡ take i (noted words).tokens
noted-take words i le =
    let front = take i words in
    let l : length front ≡ i = length-take-le i words le in
    let n : length (noted front).tokens ≡ i = length-noted front ∙ l in
    let grown = tokens_grow (drop i words) (noted front) in
    let all : (noted words).tokens ≡ (noted front).tokens ++ grown.0 =
    ap (λ (ws : List Word). (noted ws).tokens) (sym (take-append-drop i words))
    ∙ ap (λ (m : Noted). m.tokens) (noted-append front (drop i words)) ∙ grown.1 in
    sym (ap (take i) all ∙ ap (λ (k : ℕ). take k ((noted front).tokens ++ grown.0)) (sym n) ∙ take-append_seam (noted front).tokens grown.0)

-- a text has one list of words
pub words_once : (bytes : List ℕ) (ws vs : List Word) → Spells bytes ws → Spells bytes vs → ws ≡ vs
words_once bytes [] [] h k = refl
words_once bytes [] (v ∷ vs) h k = absurd (no_word v k.0 (subst (λ bs. word_at bs ≡ Some (v, k.0)) h k.1))
words_once bytes (w ∷ ws) [] h k = absurd (no_word w h.0 (subst (λ bs. word_at bs ≡ Some (w, h.0)) k h.1))
words_once bytes (w ∷ ws) (v ∷ vs) h k =
    let same : (w, h.0) ≡ (v, k.0) = some_is (w, h.0) (v, k.0) (sym h.1 ∙ k.1) in
    let rest : h.0 ≡ k.0 = ap (λ (x : Word × List ℕ). x.1) same in
    ap (λ (x : Word × List ℕ). x.0 ∷ ws) same
    ∙ ap (λ (ts : List Word). v ∷ ts) (words_once k.0 ws vs (subst (λ bs. Spells bs ws) rest h.2) k.2)
