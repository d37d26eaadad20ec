-- One token: what is read is spelt there, and what is spelt is read.
use Rattle.pg_hoa_syntax.proofs.Common.{◌≡◌, ◌≢◌, ℕ, ◌+◌, ◌^◌, ◌<◌, true, false, cond, eqb, ltb, List, [], ◌∷◌, ◌++◌, length, take, drop}
use Rattle.pg_hoa_syntax.proofs.Common.{Option, Some, refl, sym, ap, subst, ◌∙◌, arith, inl, inr, append_assoc, length-append, ◌||◌, codes}
use Rattle.pg_hoa_syntax.proofs.Common.{bytes_eq, prefix_len, take_while, flat_map, AllByRecursion, cases_Bool, eqb-true, eqb-false, ltb-true}
use Rattle.pg_hoa_syntax.proofs.Common.{lt-ltb, ne_eqb, nat_tests, take-append-drop, bytes_eq-Decides, eqb-suc-zero, take-append_seam}
use Rattle.pg_hoa_syntax.proofs.Common.{drop-append-add, Lexeme, number, identifier, header, string, alias, body, end, abort, left_bracket}
use Rattle.pg_hoa_syntax.proofs.Common.{right_bracket, left_brace, right_brace, left_paren, right_paren, bang, ampersand, bar, stray, Character}
use Rattle.pg_hoa_syntax.proofs.Common.{plain, escaped, is_space, is_letter, is_inner, is_colon, IsName, character_bytes, IsCharacter, IsSpelt}
use Rattle.pg_hoa_syntax.proofs.Common.{is_digit, Each, Stops, value_of, characters, gap_step, number_at, name_before, name_at, string_len}
use Rattle.pg_hoa_syntax.proofs.Common.{string_at, alias_at, mark_at, sign_at, solid_at, chosen, some, some_is, none, none_is_some, run_first}
use Rattle.pg_hoa_syntax.proofs.Common.{run_some, run_each, run_stops, run_parts, run_is, run_again, rest_again}
use Rattle.pg_hoa_syntax.proofs.Steps.{bind_some}
use Rattle.pg_hoa_syntax.proofs.Strings.{further}
use Rattle.pg_hoa_syntax.proofs.SpellingBlanks.{Stands}

-- a token spelt at the front, and the rest
pub record Written (bytes : List ℕ) (x : Lexeme × List ℕ) : Type 0 where
  pub text : List ℕ
  pub parts : bytes ≡ text ++ x.1
  pub spelt : IsSpelt x.0 text x.1

found : (bytes text : List ℕ) (t : Lexeme) (rest : List ℕ) (x : Lexeme × List ℕ) → some (t, rest) ≡ some x → bytes ≡ text ++ rest
    → IsSpelt t text rest → Written bytes x
found bytes text t rest x e parts spelt =
    subst (Written bytes) (some_is (t, rest) x e) (record { text = text; parts = parts; spelt = spelt })

-- a token read at the front, where nothing blank stands
pub record Reads (bytes : List ℕ) (t : Lexeme) (rest : List ℕ) : Type 0 where
  pub stands : Stands bytes
  pub read : solid_at bytes ≡ Some (t, rest)

stands_from : (b : ℕ) (bytes : List ℕ) → is_space b ≡ false → eqb b 47 ≡ false → Stands (b ∷ bytes)
unfolding gap_step
stands_from b [] s h = rw s refl
stands_from b (c ∷ bytes) s h = rw (s, h) refl

-- ---- numbers

digit_first : (b : ℕ) → is_digit b ≡ true → (is_space b ≡ false) × (eqb b 47 ≡ false)
digit_first b h = (grind (arith, nat_tests), grind (arith, nat_tests))

number_takes : (b : ℕ) (bytes : List ℕ) (x : Lexeme × List ℕ) → is_digit b ≡ true → number_at (b ∷ bytes) ≡ Some x → Written (b ∷ bytes) x
unfolding number_at
number_takes b bytes x h e =
    let all = b ∷ bytes in
    let text = take_while is_digit all in
    let rest = drop (prefix_len is_digit all) all in
    let some_digit : text ≢ [] = λ z. let first = run_first is_digit b bytes h in absurd cc in
    elim (chosen (ltb (value_of text) (2 ^ 32)) (some (number (value_of text), rest)) none (some x) e) [
      | inl c ↦ found all text (number (value_of text)) rest x c.1 (run_parts is_digit all)
          (some_digit, run_each is_digit all, run_stops is_digit all, refl, ltb-true (value_of text) (2 ^ 32) c.0)
      | inr c ↦ absurd (none_is_some x c.1)
    ]

number_read : (text rest : List ℕ) (n : ℕ) → Each is_digit text → Stops is_digit rest → value_of text ≡ n → n < 2 ^ 32
    → number_at (text ++ rest) ≡ Some (number n, rest)
unfolding number_at
number_read text rest n each stops is lt =
    rw (run_again is_digit text rest each stops, rest_again is_digit text rest each stops, is, lt-ltb n (2 ^ 32) lt) refl

solid_digit : (b : ℕ) (bytes : List ℕ) → is_digit b ≡ true → solid_at (b ∷ bytes) ≡ number_at (b ∷ bytes)
unfolding solid_at
solid_digit b bytes h = rw h refl

number_again : (n : ℕ) (text rest : List ℕ) → IsSpelt (number n) text rest → Reads (text ++ rest) (number n) rest
number_again n [] rest h = absurd (h.0 refl)
number_again n (b ∷ text) rest h =
    let f = digit_first b h.1.0 in
    record {
      stands = stands_from b (text ++ rest) f.0 f.1;
      read = solid_digit b (text ++ rest) h.1.0 ∙ number_read (b ∷ text) rest n h.1 h.2 h.3 h.4;
    }

-- ---- names

name_start : (b : ℕ) → is_letter b || eqb b 95 ≡ true → is_inner b ≡ true
name_start b h = grind (arith, nat_tests)

name_first : (b : ℕ) → is_letter b || eqb b 95 ≡ true → (is_digit b ≡ false) × (is_space b ≡ false) × (eqb b 47 ≡ false)
name_first b h = (grind (arith, nat_tests), grind (arith, nat_tests), grind (arith, nat_tests))

colon_behind : (w : List ℕ) (c : ℕ) (rest : List ℕ) → is_colon c ≡ true → name_before w (c ∷ rest) ≡ (header w, rest)
colon_behind w c rest h = rw h refl

other_behind : (w : List ℕ) (c : ℕ) (rest : List ℕ) → is_colon c ≡ false → name_before w (c ∷ rest) ≡ (identifier w, c ∷ rest)
other_behind w c rest h = rw h refl

before_takes : (bytes w rest : List ℕ) (x : Lexeme × List ℕ) → IsName w → Stops is_inner rest → bytes ≡ w ++ rest
    → some (name_before w rest) ≡ some x → Written bytes x
before_takes bytes w [] x name stops parts e = found bytes w (identifier w) [] x e parts (name, tt, tt, refl)
before_takes bytes w (c ∷ rest) x name stops parts e =
    elim (cases_Bool (is_colon c)) [
      | inl h ↦
          let colon : c ≡ 58 = eqb-true c 58 h in
          found bytes (w ++ 58 ∷ []) (header w) rest x (ap (λ (y : Lexeme × List ℕ). some y) (sym (colon_behind w c rest h)) ∙ e)
          (parts ∙ rw (colon, append_assoc w (58 ∷ []) rest) refl) (name, refl)
      | inr h ↦ found bytes w (identifier w) (c ∷ rest) x (ap (λ (y : Lexeme × List ℕ). some y) (sym (other_behind w c rest h)) ∙ e) parts
          (name, stops, h, refl)
    ]

name_takes : (b : ℕ) (bytes : List ℕ) (x : Lexeme × List ℕ) → is_letter b || eqb b 95 ≡ true → name_at (b ∷ bytes) ≡ Some x
    → Written (b ∷ bytes) x
unfolding name_at
name_takes b bytes x h e =
    let all = b ∷ bytes in
    let name : IsName (take_while is_inner all) = rw (run_first is_inner b bytes (name_start b h)) (h, run_each is_inner bytes) in
    before_takes all (take_while is_inner all) (drop (prefix_len is_inner all) all) x name (run_stops is_inner all) (run_parts is_inner all)
    e

name_inner : (w : List ℕ) → IsName w → Each is_inner w
name_inner [] h = tt
name_inner (b ∷ w) h = (name_start b h.0, h.1)

solid_name : (b : ℕ) (bytes : List ℕ) → is_letter b || eqb b 95 ≡ true → solid_at (b ∷ bytes) ≡ name_at (b ∷ bytes)
unfolding solid_at
solid_name b bytes h = rw ((name_first b h).0, h) refl

name_reads : (w rest : List ℕ) (t : Lexeme) (behind : List ℕ) → IsName w → Stops is_inner rest → name_before w rest ≡ (t, behind)
    → Reads (w ++ rest) t behind
unfolding name_at
name_reads [] rest t behind name stops e = absurd name
name_reads (b ∷ w) rest t behind name stops e =
    let f = name_first b name.0 in
    let each = name_inner (b ∷ w) name in
    record {
      stands = stands_from b (w ++ rest) f.1 f.2;
      read = solid_name b (w ++ rest) name.0
          ∙ rw (run_again is_inner (b ∷ w) rest each stops, rest_again is_inner (b ∷ w) rest each stops, e) refl;
    }

identifier_before : (w rest : List ℕ) → Stops is_colon rest → name_before w rest ≡ (identifier w, rest)
identifier_before w [] stops = refl
identifier_before w (c ∷ rest) stops = other_behind w c rest stops

identifier_again : (w text rest : List ℕ) → IsSpelt (identifier w) text rest → Reads (text ++ rest) (identifier w) rest
identifier_again w text rest h = name_reads text rest (identifier w) rest h.0 h.1 (rw (← h.3) (identifier_before text rest h.2))

header_again : (w text rest : List ℕ) → IsSpelt (header w) text rest → Reads (text ++ rest) (header w) rest
header_again w text rest h = rw (h.1, append_assoc w (58 ∷ []) rest) (name_reads w (58 ∷ rest) (header w) rest h.0 refl refl)

-- ---- strings

abbrev string_bytes : List Character → List ℕ
string_bytes s = flat_map character_bytes s

quote_len : (rest : List ℕ) → string_len (34 ∷ rest) ≡ Some 0
unfolding string_len
quote_len [] = refl
quote_len (c ∷ rest) = refl

plain_len : (b : ℕ) (bytes : List ℕ) → b ≢ 34 → b ≢ 92 → string_len (b ∷ bytes) ≡ further 1 (string_len bytes)
unfolding string_len
plain_len b [] p q = rw (ne_eqb b 34 p) refl
plain_len b (c ∷ bytes) p q = rw (ne_eqb b 34 p, ne_eqb b 92 q) refl

escaped_len : (c : ℕ) (bytes : List ℕ) → string_len (92 ∷ c ∷ bytes) ≡ further 2 (string_len bytes)
unfolding string_len
escaped_len c bytes = refl

content_len : (s : List Character) (rest : List ℕ) → AllByRecursion IsCharacter s
    → string_len (string_bytes s ++ 34 ∷ rest) ≡ Some (length (string_bytes s))
content_len [] rest h = quote_len rest
content_len (plain b ∷ s) rest h = plain_len b (string_bytes s ++ 34 ∷ rest) h.0.0 h.0.1
    ∙ rw (content_len s rest h.1) (ap (λ (n : ℕ). some n) (omega arith))
content_len (escaped c ∷ s) rest h = escaped_len c (string_bytes s ++ 34 ∷ rest)
    ∙ rw (content_len s rest h.1) (ap (λ (n : ℕ). some n) (omega arith))

plain_character : (b : ℕ) (bytes : List ℕ) → b ≢ 92 → characters (b ∷ bytes) ≡ plain b ∷ characters bytes
plain_character b [] h = refl
plain_character b (c ∷ bytes) h = rw (ne_eqb b 92 h) refl

content_characters : (s : List Character) → AllByRecursion IsCharacter s → characters (string_bytes s) ≡ s
content_characters [] h = refl
content_characters (plain b ∷ s) h = plain_character b (string_bytes s) h.0.1
    ∙ ap (λ (s : List Character). plain b ∷ s) (content_characters s h.1)
content_characters (escaped c ∷ s) h = ap (λ (s : List Character). escaped c ∷ s) (content_characters s h.1)

string_read : (s : List Character) (rest : List ℕ) → AllByRecursion IsCharacter s
    → string_at (string_bytes s ++ 34 ∷ rest) ≡ Some (string s, rest)
unfolding string_at
string_read s rest h = rw (
  content_len s rest h,
  take-append_seam (string_bytes s) (34 ∷ rest),
  drop-append-add (string_bytes s) (34 ∷ rest) 1,
  content_characters s h,
) refl

-- a string's content, its quote, and the rest
record Quoted (bytes : List ℕ) : Type 0 where
  content : List Character
  rest : List ℕ
  parts : bytes ≡ string_bytes content ++ 34 ∷ rest
  sound : AllByRecursion IsCharacter content

quoted : (bytes : List ℕ) (n : ℕ) → string_len bytes ≡ Some n → Quoted bytes
unfolding string_len
quoted [] n e = absurd (none_is_some n e)
quoted (b ∷ []) n e =
    elim (chosen (eqb b 34) (some 0) none (some n) e) [
      | inl p ↦ record { content = []; rest = []; parts = rw (eqb-true b 34 p.0) refl; sound = tt }
      | inr p ↦ absurd (none_is_some n p.1)
    ]
quoted (b ∷ c ∷ bytes) n e =
    elim (chosen (eqb b 34) (some 0) _ (some n) e) [
      | inl p ↦ record { content = []; rest = c ∷ bytes; parts = rw (eqb-true b 34 p.0) refl; sound = tt }
      | inr p ↦ elim (chosen (eqb b 92) _ _ (some n) p.1) [
        | inl q ↦
            let m = bind_some (string_len bytes) (λ n. some (n + 2)) n q.1 in
            let r = quoted bytes m.0 m.1 in
            record {
              content = escaped c ∷ r.content;
              rest = r.rest;
              parts = rw (eqb-true b 92 q.0) (ap (λ (l : List ℕ). 92 ∷ c ∷ l) r.parts);
              sound = (tt, r.sound);
            }
        | inr q ↦
            let m = bind_some (string_len (c ∷ bytes)) (λ n. some (n + 1)) n q.1 in
            let r = quoted (c ∷ bytes) m.0 m.1 in
            record {
              content = plain b ∷ r.content;
              rest = r.rest;
              parts = ap (λ (l : List ℕ). b ∷ l) r.parts;
              sound = ((eqb-false b 34 p.0, eqb-false b 92 q.0), r.sound);
            }
      ]
    ]

string_quoted : (bytes : List ℕ) (x : Lexeme × List ℕ) → string_at bytes ≡ Some x → Quoted bytes
unfolding string_at
string_quoted bytes x e =
    let m = bind_some (string_len bytes) (λ n. some (string (characters (take n bytes)), drop (n + 1) bytes)) x e in quoted bytes m.0 m.1

string_takes : (bytes : List ℕ) (x : Lexeme × List ℕ) → string_at bytes ≡ Some x → Written (34 ∷ bytes) x
string_takes bytes x e =
    let q = string_quoted bytes x e in
    let same : string_at (string_bytes q.content ++ 34 ∷ q.rest) ≡ Some x = rw (← q.parts) e in
    found (34 ∷ bytes) (34 ∷ (string_bytes q.content ++ 34 ∷ [])) (string q.content) q.rest x
    (sym (string_read q.content q.rest q.sound) ∙ same)
    (ap (λ (l : List ℕ). 34 ∷ l) (q.parts ∙ sym (append_assoc (string_bytes q.content) (34 ∷ []) q.rest))) (q.sound, refl)

solid_string : (bytes : List ℕ) → solid_at (34 ∷ bytes) ≡ string_at bytes
unfolding solid_at
solid_string bytes = refl

string_again : (s : List Character) (text rest : List ℕ) → IsSpelt (string s) text rest → Reads (text ++ rest) (string s) rest
string_again s text rest h =
    rw (h.1, append_assoc (string_bytes s) (34 ∷ []) rest)
    (record {
      stands = stands_from 34 (string_bytes s ++ 34 ∷ rest) refl refl;
      read = solid_string (string_bytes s ++ 34 ∷ rest)
          ∙ string_read s rest h.0;
    })

-- ---- aliases

alias_takes : (bytes : List ℕ) (x : Lexeme × List ℕ) → alias_at bytes ≡ Some x → Written (64 ∷ bytes) x
unfolding alias_at
alias_takes bytes x e =
    let text = take_while is_inner bytes in
    let rest = drop (prefix_len is_inner bytes) bytes in
    elim (chosen (eqb (prefix_len is_inner bytes) 0) none (some (alias text, rest)) (some x) e) [
      | inl c ↦ absurd (none_is_some x c.1)
      | inr c ↦ found (64 ∷ bytes) (64 ∷ text) (alias text) rest x c.1 (ap (λ (l : List ℕ). 64 ∷ l) (run_parts is_inner bytes))
          (run_some is_inner bytes (eqb-false (prefix_len is_inner bytes) 0 c.0), run_each is_inner bytes, run_stops is_inner bytes, refl)
    ]

solid_alias : (bytes : List ℕ) → solid_at (64 ∷ bytes) ≡ alias_at bytes
unfolding solid_at
solid_alias bytes = refl

alias_read : (w rest : List ℕ) → w ≢ [] → Each is_inner w → Stops is_inner rest → alias_at (w ++ rest) ≡ Some (alias w, rest)
unfolding alias_at
alias_read [] rest some_byte each stops = absurd (some_byte refl)
alias_read (b ∷ w) rest some_byte each stops = grind (
  arith,
  nat_tests,
  run_is is_inner (b ∷ w) rest each stops,
  eqb-suc-zero (length w),
  run_again is_inner (b ∷ w) rest each stops,
  rest_again is_inner (b ∷ w) rest each stops,
)

alias_again : (w text rest : List ℕ) → IsSpelt (alias w) text rest → Reads (text ++ rest) (alias w) rest
alias_again w text rest h =
    grind (arith, nat_tests, stands_from 64 (w ++ rest) refl refl, solid_alias (w ++ rest), alias_read w rest h.0 h.1 h.2)

-- ---- marks

mark_takes : (bytes : List ℕ) (x : Lexeme × List ℕ) → mark_at bytes ≡ Some x → Written bytes x
unfolding mark_at
mark_takes bytes x e =
    mark 8 body (codes "--BODY--") _ e (λ e. e) (λ e. mark 7 end (codes "--END--") _ e (λ e. e)
    (λ e. mark 9 abort (codes "--ABORT--") none e (λ e. e) (λ e. absurd (none_is_some x e))))
  where
    mark : (n : ℕ) (t : Lexeme) (word : List ℕ) (other : Option (Lexeme × List ℕ))
        → cond (bytes_eq (take n bytes) word) (some (t, drop n bytes)) other ≡ some x
        → (take n bytes ≡ word → IsSpelt t (take n bytes) (drop n bytes)) → (other ≡ some x → Written bytes x) → Written bytes x
    mark n t word other e spelt otherwise =
        elim (chosen (bytes_eq (take n bytes) word) (some (t, drop n bytes)) other (some x) e) [
          | inl c ↦ found bytes (take n bytes) t (drop n bytes) x c.1 (sym (take-append-drop n bytes))
              (spelt ((bytes_eq-Decides (take n bytes) word).0 c.0))
          | inr c ↦ otherwise c.1
        ]

-- ---- signs

sign_takes : (b : ℕ) (bytes : List ℕ) (x : Lexeme × List ℕ) → sign_at b bytes ≡ Some x → Written (b ∷ bytes) x
unfolding sign_at
sign_takes b bytes x e =
    sign 91 left_bracket _ e (λ e. e) (λ e. sign 93 right_bracket _ e (λ e. e) (λ e. sign 123 left_brace _ e (λ e. e)
    (λ e. sign 125 right_brace _ e (λ e. e) (λ e. sign 40 left_paren _ e (λ e. e) (λ e. sign 41 right_paren _ e (λ e. e)
    (λ e. sign 33 bang _ e (λ e. e) (λ e. sign 38 ampersand _ e (λ e. e) (λ e. sign 124 bar none e (λ e. e)
    (λ e. absurd (none_is_some x e))))))))))
  where
    sign : (n : ℕ) (t : Lexeme) (other : Option (Lexeme × List ℕ)) → cond (eqb b n) (some (t, bytes)) other ≡ some x
        → (b ∷ [] ≡ n ∷ [] → IsSpelt t (b ∷ []) bytes) → (other ≡ some x → Written (b ∷ bytes) x) → Written (b ∷ bytes) x
    sign n t other e spelt otherwise =
        elim (chosen (eqb b n) (some (t, bytes)) other (some x) e) [
          | inl c ↦ found (b ∷ bytes) (b ∷ []) t bytes x c.1 refl (spelt (ap (λ (b : ℕ). b ∷ []) (eqb-true b n c.0)))
          | inr c ↦ otherwise c.1
        ]

-- ---- any token

pub solid_takes : (bytes : List ℕ) (x : Lexeme × List ℕ) → solid_at bytes ≡ Some x → Written bytes x
unfolding solid_at
solid_takes [] x e = absurd (none_is_some x e)
solid_takes (b ∷ bytes) x e =
    elim (chosen (is_digit b) (number_at (b ∷ bytes)) _ (some x) e) [
      | inl c ↦ number_takes b bytes x c.0 c.1
      | inr c ↦ elim (chosen (is_letter b || eqb b 95) (name_at (b ∷ bytes)) _ (some x) c.1) [
        | inl c ↦ name_takes b bytes x c.0 c.1
        | inr c ↦ elim (chosen (eqb b 34) (string_at bytes) _ (some x) c.1) [
          | inl c ↦ rw (eqb-true b 34 c.0) (string_takes bytes x c.1)
          | inr c ↦ elim (chosen (eqb b 64) (alias_at bytes) _ (some x) c.1) [
            | inl c ↦ rw (eqb-true b 64 c.0) (alias_takes bytes x c.1)
            | inr c ↦ elim (chosen (eqb b 45) (mark_at (b ∷ bytes)) (sign_at b bytes) (some x) c.1)
                [ inl c ↦ mark_takes (b ∷ bytes) x c.1 | inr c ↦ sign_takes b bytes x c.1 ]
          ]
        ]
      ]
    ]

pub token_again : (t : Lexeme) (text rest : List ℕ) → IsSpelt t text rest → Reads (text ++ rest) t rest
unfolding gap_step solid_at sign_at mark_at
token_again (number n) text rest h = number_again n text rest h
token_again (identifier w) text rest h = identifier_again w text rest h
token_again (header w) text rest h = header_again w text rest h
token_again (string s) text rest h = string_again s text rest h
token_again (alias w) text rest h = alias_again w text rest h
token_again body text rest h = rw h (record { stands = refl; read = refl })
token_again end text rest h = rw h (record { stands = refl; read = refl })
token_again abort text rest h = rw h (record { stands = refl; read = refl })
token_again left_bracket text rest h = rw h (record { stands = stands_from 91 rest refl refl; read = refl })
token_again right_bracket text rest h = rw h (record { stands = stands_from 93 rest refl refl; read = refl })
token_again left_brace text rest h = rw h (record { stands = stands_from 123 rest refl refl; read = refl })
token_again right_brace text rest h = rw h (record { stands = stands_from 125 rest refl refl; read = refl })
token_again left_paren text rest h = rw h (record { stands = stands_from 40 rest refl refl; read = refl })
token_again right_paren text rest h = rw h (record { stands = stands_from 41 rest refl refl; read = refl })
token_again bang text rest h = rw h (record { stands = stands_from 33 rest refl refl; read = refl })
token_again ampersand text rest h = rw h (record { stands = stands_from 38 rest refl refl; read = refl })
token_again bar text rest h = rw h (record { stands = stands_from 124 rest refl refl; read = refl })
token_again stray text rest h = absurd h

-- ---- a token has a byte at least

some_bytes : (text : List ℕ) → text ≢ [] → 0 < length text
some_bytes [] h = absurd (h refl)
some_bytes (b ∷ text) h = omega arith

name_bytes : (w : List ℕ) → IsName w → 0 < length w
name_bytes [] h = absurd h
name_bytes (b ∷ w) h = omega arith

pub spelt_some : (t : Lexeme) (text rest : List ℕ) → IsSpelt t text rest → 0 < length text
spelt_some (number n) text rest h = some_bytes text h.0
spelt_some (identifier w) text rest h = name_bytes text h.0
spelt_some (header w) text rest h = let name = name_bytes w h.0 in rw h.1 (omega (arith, length-append w (58 ∷ [])))
spelt_some (string s) text rest h = rw h.1 (omega arith)
spelt_some (alias w) text rest h = rw h.3 (omega arith)
spelt_some stray text rest h = absurd h
spelt_some _ text rest h = rw h (omega arith)
