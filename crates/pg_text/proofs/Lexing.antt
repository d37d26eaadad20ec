-- A token that is read is spelt at the front, and a token that is spelt there is read.
use Rattle.pg_text.proofs.Common.{◌≡◌, ◌≢◌, ℕ, ◌+◌, ◌^◌, ◌<◌, ◌≤◌, Bool, true, false, ltb, eqb, get_or, List, [], ◌∷◌, ◌++◌, length, drop}
use Rattle.pg_text.proofs.Common.{Some, Result, Ok, Err, IfOk, IfErr, IsOkAnd, Bor, refl, sym, ap, subst, ◌∙◌, inl, inr, arith}
use Rattle.pg_text.proofs.Common.{append_assoc, nat_tests, nat_le, prefix_len, take_while, ltb-true, lt-ltb, eqb-true, leb-true, lt-leb}
use Rattle.pg_text.proofs.Common.{ne_eqb, and_parts, and_right, drop_at, length-append, drop-drop, drop_more, prefix_len_stops, Lexeme}
use Rattle.pg_text.proofs.Common.{lexeme, number, word, semicolon, comma, quoted, end, is_space, is_letter, is_plain, IsSpelt, Begins}
use Rattle.pg_text.proofs.Common.{after_space, token_fault, is_digit, Each, Stops, value_of, TokenFault, number_at, word_at, quoted_at}
use Rattle.pg_text.proofs.Common.{solid_at, lexeme_at, token_at, Reads, chosen, some, some_is, none, none_is_some, run_each, run_stops}
use Rattle.pg_text.proofs.Common.{run_parts, run_again, rest_again, run_is, one_more}
use Rattle.pg_text.specs.declared.tokens.Token.{Token}
use Rattle.pg_text.proofs.Steps.{ok_is, err_is_ok}

-- a token at the very front
pub record Fronts (bytes : List ℕ) (token : Lexeme) (rest : List ℕ) : Type 0 where
  pub text : List ℕ
  pub parts : bytes ≡ text ++ rest
  pub spelt : IsSpelt token text rest

abbrev IsFront : List ℕ → Lexeme × List ℕ → Type 0
IsFront bytes x = Fronts bytes x.0 x.1

-- ---- what is read is spelt

starts : (test : ℕ → Bool) (b : ℕ) (bytes : List ℕ) → test b ≡ true → take_while test (b ∷ bytes) ≢ []
starts test b bytes holds e = let f : take_while test (b ∷ bytes) ≡ b ∷ take_while test bytes = rw (one_more test b bytes holds) refl in cc

number_fronts : (b : ℕ) (bytes : List ℕ) (x : Lexeme × List ℕ) → is_digit b ≡ true → number_at (b ∷ bytes) ≡ Some x → IsFront (b ∷ bytes) x
unfolding number_at
number_fronts b bytes x holds e =
    let all = b ∷ bytes in
    elim (chosen (ltb (value_of (take_while is_digit all)) (2 ^ 32))
    (some (number (value_of (take_while is_digit all)), drop (prefix_len is_digit all) all)) none (some x) e) [
      | inl w ↦ subst (IsFront all) (some_is _ x w.1)
          (record {
            text = take_while is_digit all;
            parts = run_parts is_digit all;
            spelt = (starts is_digit b bytes holds, run_each is_digit all, run_stops is_digit all, refl, ltb-true _ _ w.0);
          })
      | inr w ↦ absurd (none_is_some x w.1)
    ]

word_fronts : (b : ℕ) (bytes : List ℕ) (x : Lexeme × List ℕ) → is_letter b ≡ true → word_at (b ∷ bytes) ≡ Some x → IsFront (b ∷ bytes) x
unfolding word_at
word_fronts b bytes x holds e =
    let all = b ∷ bytes in
    subst (IsFront all) (some_is _ x e)
    (record {
      text = take_while is_letter all;
      parts = run_parts is_letter all;
      spelt = (starts is_letter b bytes holds, run_each is_letter all, run_stops is_letter all, refl);
    })

unplain : (b : ℕ) → is_plain b ≡ false → b ≡ 34
unplain b h = elim (chosen (eqb b 34) false true false h) [ inl w ↦ eqb-true b 34 w.0 | inr w ↦ absurd cc ]

-- where a run stops before the end, the byte there fails the test
quote_stands : (bytes : List ℕ) → prefix_len is_plain bytes < length bytes
    → bytes ≡ take_while is_plain bytes ++ 34 ∷ drop (prefix_len is_plain bytes + 1) bytes
quote_stands bytes lt =
    let n = prefix_len is_plain bytes in
    let more : drop n bytes ≡ get_or bytes n 0 ∷ drop (n + 1) bytes = drop_more bytes n 0 lt in
    let quote : get_or bytes n 0 ≡ 34 = unplain (get_or bytes n 0) (prefix_len_stops is_plain bytes 0 lt) in
    run_parts is_plain bytes ∙ ap (λ (t : List ℕ). take_while is_plain bytes ++ t) (more ∙ ap (λ (b : ℕ). b ∷ drop (n + 1) bytes) quote)

quoted_fronts : (bytes : List ℕ) (x : Lexeme × List ℕ) → quoted_at bytes ≡ Some x → IsFront (34 ∷ bytes) x
unfolding quoted_at
quoted_fronts bytes x e =
    elim (chosen (ltb (prefix_len is_plain bytes) (length bytes))
    (some (quoted (take_while is_plain bytes), drop (prefix_len is_plain bytes + 1) bytes)) none (some x) e) [
      | inl w ↦
          let whole = quote_stands bytes (ltb-true _ _ w.0) in
          subst (IsFront (34 ∷ bytes)) (some_is _ x w.1)
          (record {
            text = 34 ∷ (take_while is_plain bytes ++ 34 ∷ []);
            parts =
                ap (λ (t : List ℕ). 34 ∷ t) (whole
                ∙ sym (append_assoc (take_while is_plain bytes) (34 ∷ []) (drop (prefix_len is_plain bytes + 1) bytes)));
            spelt = (run_each is_plain bytes, refl);
          })
      | inr w ↦ absurd (none_is_some x w.1)
    ]

one_byte : (b c : ℕ) (t : Lexeme) (bytes : List ℕ) (x : Lexeme × List ℕ) → ((c ∷ []) ≡ (c ∷ []) → IsSpelt t (c ∷ []) bytes) → eqb b c ≡ true
    → some (t, bytes) ≡ some x → IsFront (b ∷ bytes) x
one_byte b c t bytes x spelt same e =
    subst (IsFront (b ∷ bytes)) (some_is _ x e) (record { text = c ∷ []; parts = ap (λ (n : ℕ). n ∷ bytes) (eqb-true b c same); spelt = spelt refl })

pub solid_fronts : (bytes : List ℕ) (x : Lexeme × List ℕ) → solid_at bytes ≡ Some x → IsFront bytes x
unfolding solid_at
solid_fronts [] x e = subst (IsFront []) (some_is _ x e) (record { text = []; parts = refl; spelt = (refl, refl) })
solid_fronts (b ∷ bytes) x e =
    elim (chosen (is_digit b) _ _ (some x) e) [
      | inl w ↦ number_fronts b bytes x w.0 w.1
      | inr v ↦ elim (chosen (is_letter b) _ _ (some x) v.1) [
        | inl w ↦ word_fronts b bytes x w.0 w.1
        | inr v ↦ elim (chosen (eqb b 59) _ _ (some x) v.1) [
          | inl w ↦ one_byte b 59 semicolon bytes x (λ e. e) w.0 w.1
          | inr v ↦ elim (chosen (eqb b 44) _ _ (some x) v.1) [
            | inl w ↦ one_byte b 44 comma bytes x (λ e. e) w.0 w.1
            | inr v ↦ elim (chosen (eqb b 34) _ _ (some x) v.1) [
              | inl w ↦ subst (λ (n : ℕ). IsFront (n ∷ bytes) x) (sym (eqb-true b 34 w.0)) (quoted_fronts bytes x w.1)
              | inr w ↦ absurd (none_is_some x w.1)
            ]
          ]
        ]
      ]
    ]

pub lexeme_takes : (bytes : List ℕ) (x : Lexeme × List ℕ) → lexeme_at bytes ≡ Some x → Begins bytes x.0 x.1
unfolding lexeme_at
lexeme_takes bytes x e = grind (arith, nat_tests, solid_fronts (after_space bytes) x e, run_parts is_space bytes, run_each is_space bytes)

-- ---- what is spelt is read

letter_no_digit : (b : ℕ) → is_letter b ≡ true → is_digit b ≡ false
letter_no_digit b h = let p = and_parts (nat_le 97 b) (nat_le b 122) h in let low : 97 ≤ b = leb-true 97 b p.0 in
    and_right (nat_le 48 b) (nat_le b 57) (lt-leb b 57 (omega arith))

pub solid_digit : (b : ℕ) (bytes : List ℕ) → is_digit b ≡ true → solid_at (b ∷ bytes) ≡ number_at (b ∷ bytes)
unfolding solid_at
solid_digit b bytes h = rw h refl

solid_letter : (b : ℕ) (bytes : List ℕ) → is_letter b ≡ true → solid_at (b ∷ bytes) ≡ word_at (b ∷ bytes)
unfolding solid_at
solid_letter b bytes h = rw (letter_no_digit b h, h) refl

digits_again : (n : ℕ) (text rest : List ℕ) → IsSpelt (number n) text rest → number_at (text ++ rest) ≡ Some (number n, rest)
unfolding number_at
digits_again n text rest h =
    let run = run_again is_digit text rest h.1 h.2 in
    let behind = rest_again is_digit text rest h.1 h.2 in
    let small : ltb (value_of text) (2 ^ 32) ≡ true = lt-ltb _ _ (omega (arith, h.3, h.4)) in
    rw (run, small, behind, h.3) refl

letters_again : (w text rest : List ℕ) → IsSpelt (word w) text rest → word_at (text ++ rest) ≡ Some (word w, rest)
unfolding word_at
letters_again w text rest h = grind (arith, nat_tests, run_again is_letter text rest h.1 h.2, rest_again is_letter text rest h.1 h.2)

number_again : (n : ℕ) (text rest : List ℕ) → IsSpelt (number n) text rest → solid_at (text ++ rest) ≡ Some (number n, rest)
number_again n [] rest h = absurd (h.0 refl)
number_again n (b ∷ text) rest h = solid_digit b (text ++ rest) h.1.0 ∙ digits_again n (b ∷ text) rest h

word_again : (w text rest : List ℕ) → IsSpelt (word w) text rest → solid_at (text ++ rest) ≡ Some (word w, rest)
word_again w [] rest h = absurd (h.0 refl)
word_again w (b ∷ text) rest h = solid_letter b (text ++ rest) h.1.0 ∙ letters_again w (b ∷ text) rest h

quoted_again : (s rest : List ℕ) → Each is_plain s → quoted_at (s ++ 34 ∷ rest) ≡ Some (quoted s, rest)
unfolding quoted_at
quoted_again s rest each =
    let run = run_again is_plain s (34 ∷ rest) each refl in
    let len = run_is is_plain s (34 ∷ rest) each refl in
    let short : ltb (length s) (length (s ++ 34 ∷ rest)) ≡ true = lt-ltb _ _ (omega (arith, length-append s (34 ∷ rest))) in
    let behind : drop (length s + 1) (s ++ 34 ∷ rest) ≡ rest = sym (drop-drop 1 (length s) (s ++ 34 ∷ rest))
    ∙ ap (drop 1) (drop_at s (34 ∷ rest) (length s) refl) in
    rw (run, len, short, behind) refl

pub solid_again : (token : Lexeme) (text rest : List ℕ) → IsSpelt token text rest → solid_at (text ++ rest) ≡ Some (token, rest)
unfolding solid_at
solid_again (number n) text rest h = number_again n text rest h
solid_again (word w) text rest h = word_again w text rest h
solid_again semicolon text rest h = rw h refl
solid_again comma text rest h = rw h refl
solid_again (quoted s) text rest h = rw (h.1, append_assoc s (34 ∷ []) rest) (quoted_again s rest h.0)
solid_again end text rest h = rw (h.0, h.1) refl

pub digit_no_space : (b : ℕ) → is_digit b ≡ true → is_space b ≡ false
digit_no_space b h = let p = and_parts (nat_le 48 b) (nat_le b 57) h in let low : 48 ≤ b = leb-true 48 b p.0 in
    rw (and_right (nat_le 9 b) (nat_le b 13) (lt-leb b 13 (omega arith))) (ne_eqb b 32 (omega arith))

letter_no_space : (b : ℕ) → is_letter b ≡ true → is_space b ≡ false
letter_no_space b h = let p = and_parts (nat_le 97 b) (nat_le b 122) h in let low : 97 ≤ b = leb-true 97 b p.0 in
    rw (and_right (nat_le 9 b) (nat_le b 13) (lt-leb b 13 (omega arith))) (ne_eqb b 32 (omega arith))

solid_stops : (token : Lexeme) (text rest : List ℕ) → IsSpelt token text rest → Stops is_space (text ++ rest)
solid_stops (number n) [] rest h = absurd (h.0 refl)
solid_stops (number n) (b ∷ text) rest h = digit_no_space b h.1.0
solid_stops (word w) [] rest h = absurd (h.0 refl)
solid_stops (word w) (b ∷ text) rest h = letter_no_space b h.1.0
solid_stops semicolon text rest h = rw h refl
solid_stops comma text rest h = rw h refl
solid_stops (quoted s) text rest h = rw h.1 refl
solid_stops end text rest h = rw (h.0, h.1) tt

pub lexeme_again : (bytes : List ℕ) (token : Lexeme) (rest : List ℕ) → Begins bytes token rest → lexeme_at bytes ≡ Some (token, rest)
unfolding lexeme_at
lexeme_again bytes token rest h =
    grind (
      arith,
      nat_tests,
      rest_again is_space h.gap (h.text ++ rest) h.blank (solid_stops token h.text rest h.spelt),
      solid_again token h.text rest h.spelt,
    )

-- ---- what is read of a text, with the fault where no token is read

abbrev seen : Token × Bor (List ℕ) → Lexeme × List ℕ
seen x = (lexeme x.0, x.1.now)

token_lexeme : (bytes : List ℕ) (x : Lexeme × List ℕ) → token_at bytes ≡ Ok x → lexeme_at bytes ≡ Some x
unfolding token_at
token_lexeme bytes x e = grind (arith, nat_tests)

pub token_takes : (bytes : List ℕ) (x : Lexeme × List ℕ) → token_at bytes ≡ Ok x → Begins bytes x.0 x.1
token_takes bytes x e = lexeme_takes bytes x (token_lexeme bytes x e)

-- behind white space the token stands at the very front
pub token_fronts : (bytes : List ℕ) (x : Lexeme × List ℕ) → token_at bytes ≡ Ok x → Fronts (after_space bytes) x.0 x.1
unfolding lexeme_at
token_fronts bytes x e = solid_fronts (after_space bytes) x (token_lexeme bytes x e)

pub token_again : (bytes : List ℕ) (token : Lexeme) (rest : List ℕ) → Begins bytes token rest → token_at bytes ≡ Ok (token, rest)
unfolding token_at
token_again bytes token rest b = rw (lexeme_again bytes token rest b) refl

-- where no token is read the fault is that of the text
pub token_err : (bytes : List ℕ) (fault : TokenFault) → token_at bytes ≡ Err fault → fault ≡ token_fault bytes
unfolding token_at
token_err bytes fault e = grind (arith, nat_tests)

-- ---- what a function that reads a token answers

pub read_spelt : (r : Result (Token × Bor (List ℕ)) TokenFault) (bytes : List ℕ) → Reads seen r (token_at bytes)
    → IfOk r (λ x. Begins bytes (lexeme x.0) x.1.now)
read_spelt (Ok x) bytes e = token_takes bytes (seen x) e
read_spelt (Err f) bytes e = tt

pub read_only : (r : Result (Token × Bor (List ℕ)) TokenFault) (bytes : List ℕ) (token : Lexeme) (rest : List ℕ)
    → Reads seen r (token_at bytes) → Begins bytes token rest → IsOkAnd r (λ x. (lexeme x.0 ≡ token) × (x.1.now ≡ rest))
read_only (Ok x) bytes token rest e b = grind (arith, nat_tests, ok_is (seen x) (token, rest) (sym e ∙ token_again bytes token rest b))
read_only (Err f) bytes token rest e b = absurd (err_is_ok f (token, rest) (sym e ∙ token_again bytes token rest b))

pub read_fault : (r : Result (Token × Bor (List ℕ)) TokenFault) (bytes : List ℕ) → Reads seen r (token_at bytes) → IfErr r (λ e. e ≡ token_fault bytes)
read_fault (Ok x) bytes e = tt
read_fault (Err f) bytes e = token_err bytes f e
