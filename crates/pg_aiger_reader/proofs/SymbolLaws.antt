-- Symbols and what ends a text: what is read is spelt, and what is spelt is read.
use Rattle.pg_aiger_reader.proofs.Common.{◌≡◌, ℕ, suc, zero, ◌+◌, ◌<◌, true, false, List, [], ◌∷◌, ◌++◌}
use Rattle.pg_aiger_reader.proofs.Common.{length, Option, Some, None, refl, sym, ap, subst, ◌∙◌, append_assoc, arith, inl, inr, ◌>>=◌, eqb, ltb}
use Rattle.pg_aiger_reader.proofs.Common.{eqb-true, ltb-true, lt-ltb, chosen, some, some_is, none, none_is_some, codes, get_or, drop}
use Rattle.pg_aiger_reader.proofs.Common.{prefix_len, take_while, Each, run_each, run_parts, run_again, run_is, length-append, drop-drop}
use Rattle.pg_aiger_reader.proofs.Common.{drop_at, drop_more, prefix_len_stops, and_parts, field_at, name_at, symbol_at, good_at, symbols_at}
use Rattle.pg_aiger_reader.proofs.Common.{if◌then◌else◌}
use Rattle.pg_aiger_reader.proofs.Common.{◌≢◌, ◌⊎◌, ◌-◌, ◌&&◌, ◌||◌, ◌==◌, Bool, eqb-suc-zero, take, bytes_eq, bytes_eq-Decides, cases_Bool, take-append-drop, take_at, Decides-eqb}
use Rattle.pg_aiger_reader.proofs.Common.{strip_suffix_is, newline_at, is_blank, is_end, without_return}
use Rattle.pg_aiger_reader.proofs.Lines.{IsField, Field, field_found, field_only, digits_inner, each_append, spaced, IsNewline, newline_found, newline_only}
use Rattle.pg_aiger_reader.proofs.Lines.{newline_of, line_made, line_takes, longer_line, shorter_line}
use Rattle.pg_aiger_reader.specs.declared.header.Header.{Header}
use Rattle.pg_aiger.specs.CircuitText.{Kind, input, latch, output, Symbol, kind_text, is_inner, count_of, IsNumber}
use Rattle.pg_aiger.specs.Circuits.{Circuit}
use Rattle.pg_aiger_reader.specs.Texts.{HasLine, AreItems, BeginsSymbol, IsSymbol, AreEmptyLines, IsComment}
use Rattle.pg_aiger_reader.specs.Views.{symbol_of}
use Rattle.pg_aiger_reader.specs.Mirrors.Symbols.{count_in, kind_at, is_comment, named_at}

-- ---- names

uninner : (b : ℕ) → is_inner b ≡ false → b ≡ 10
uninner b h = elim (chosen (eqb b 10) false true false h) [ inl w ↦ eqb-true b 10 w.0 | inr w ↦ absurd cc ]

newline_stands : (bytes : List ℕ) → prefix_len is_inner bytes < length bytes
    → bytes ≡ take_while is_inner bytes ++ 10 ∷ drop (prefix_len is_inner bytes + 1) bytes
newline_stands bytes lt =
    let n = prefix_len is_inner bytes in
    let more : drop n bytes ≡ get_or bytes n 0 ∷ drop (n + 1) bytes = drop_more bytes n 0 lt in
    let newline : get_or bytes n 0 ≡ 10 = uninner (get_or bytes n 0) (prefix_len_stops is_inner bytes 0 lt) in
    run_parts is_inner bytes ∙ ap (λ (t : List ℕ). take_while is_inner bytes ++ t) (more ∙ ap (λ (b : ℕ). b ∷ drop (n + 1) bytes) newline)

abbrev Name : Type 0
Name = List ℕ × List ℕ

-- a line has a carriage return at its end, or it stays as it is
returned_or_not : (line : List ℕ)
    → (line ≡ without_return line ++ codes "\r") ⊎ ((without_return line ≡ line) × ((front : List ℕ) → line ≢ front ++ codes "\r"))
unfolding without_return
returned_or_not line =
    let n = length line - 1 in
    elim (cases_Bool (bytes_eq (drop n line) (codes "\r"))) [
      | inl h ↦
          let last : drop n line ≡ codes "\r" = (bytes_eq-Decides (drop n line) (codes "\r")).0 h in
          inl (rw h (sym (take-append-drop n line) ∙ ap (λ (t : List ℕ). take n line ++ t) last))
      | inr h ↦ inr (rw h refl, strip_suffix_is Decides-eqb line (codes "\r") None h)
    ]

returned : (line : List ℕ) → without_return (line ++ codes "\r") ≡ line
unfolding without_return
returned line =
    let n : length (line ++ codes "\r") - 1 ≡ length line = omega (arith, length-append line (codes "\r")) in
    rw (n, drop_at line (codes "\r") (length line) refl, take_at line (codes "\r") (length line) refl) refl

not_returned : (line : List ℕ) → ((front : List ℕ) → line ≢ front ++ codes "\r") → without_return line ≡ line
not_returned line none = elim (returned_or_not line) [ inl e ↦ absurd (none (without_return line) e) | inr w ↦ w.0 ]

each_left : (test : ℕ → Bool) (xs ys : List ℕ) → Each test (xs ++ ys) → Each test xs
each_left test [] ys a = tt
each_left test (x ∷ xs) ys a = (a.0, each_left test xs ys a.1)

line_of : (bytes whole rest : List ℕ) → Each is_inner whole → bytes ≡ whole ++ 10 ∷ rest → HasLine bytes (without_return whole) rest
line_of bytes whole rest each parts =
    let line = without_return whole in
    elim (returned_or_not whole) [
      | inl e ↦ record {
        single = each_left is_inner line (codes "\r") (subst (Each is_inner) e each);
        ends = inl (parts ∙ ap (λ (t : List ℕ). t ++ 10 ∷ rest) e ∙ append_assoc line (codes "\r") (10 ∷ rest));
      }
      | inr w ↦ record {
        single = subst (Each is_inner) (sym w.0) each;
        ends = inr (parts ∙ ap (λ (t : List ℕ). t ++ 10 ∷ rest) (sym w.0), λ front e. w.1 front (sym w.0 ∙ e));
      }
    ]

name_found : (bytes : List ℕ) (x : Name) → name_at bytes ≡ Some x → HasLine bytes x.0 x.1
unfolding name_at
name_found bytes x e =
    elim (chosen (ltb (prefix_len is_inner bytes) (length bytes))
    (some (without_return (take_while is_inner bytes), drop (prefix_len is_inner bytes + 1) bytes)) none (some x) e) [
      | inl w ↦
          subst (λ (y : Name). HasLine bytes y.0 y.1) (some_is _ x w.1)
          (line_of bytes (take_while is_inner bytes) _ (run_each is_inner bytes) (newline_stands bytes (ltb-true _ _ w.0)))
      | inr w ↦ absurd (none_is_some x w.1)
    ]

name_again : (s rest : List ℕ) → Each is_inner s → name_at (s ++ 10 ∷ rest) ≡ Some (without_return s, rest)
unfolding name_at
name_again s rest each =
    let run = run_again is_inner s (10 ∷ rest) each refl in
    let len = run_is is_inner s (10 ∷ rest) each refl in
    let short : ltb (length s) (length (s ++ 10 ∷ rest)) ≡ true = lt-ltb _ _ (omega (arith, length-append s (10 ∷ rest))) in
    let behind : drop (length s + 1) (s ++ 10 ∷ rest) ≡ rest = sym (drop-drop 1 (length s) (s ++ 10 ∷ rest))
    ∙ ap (drop 1) (drop_at s (10 ∷ rest) (length s) refl) in
    rw (run, len, short, behind) refl

name_only : (bytes name rest : List ℕ) → HasLine bytes name rest → name_at bytes ≡ Some (name, rest)
name_only bytes name rest has =
    elim has.ends [
      | inl e ↦
          let whole = name ++ codes "\r" in
          let parts : bytes ≡ whole ++ 10 ∷ rest = e ∙ sym (append_assoc name (codes "\r") (10 ∷ rest)) in
          ap name_at parts ∙ name_again whole rest (each_append is_inner name (codes "\r") has.single (refl, tt))
          ∙ ap (λ (t : List ℕ). some (t, rest)) (returned name)
      | inr e ↦
          ap name_at e.0 ∙ name_again name rest has.single ∙ ap (λ (t : List ℕ). some (t, rest)) (not_returned name e.1)
    ]

-- ---- symbols

kind_found : (b : ℕ) (k : Kind) → kind_at b ≡ Some k → (b ∷ []) ≡ kind_text k
kind_found b k e =
    elim (chosen (eqb b 105) (some input) _ (some k) e) [
      | inl w ↦ subst (λ (k : Kind). (b ∷ []) ≡ kind_text k) (some_is input k w.1) (ap (λ (c : ℕ). c ∷ []) (eqb-true b 105 w.0))
      | inr v ↦ elim (chosen (eqb b 108) (some latch) _ (some k) v.1) [
        | inl w ↦ subst (λ (k : Kind). (b ∷ []) ≡ kind_text k) (some_is latch k w.1) (ap (λ (c : ℕ). c ∷ []) (eqb-true b 108 w.0))
        | inr v ↦ elim (chosen (eqb b 111) (some output) none (some k) v.1) [
          | inl w ↦ subst (λ (k : Kind). (b ∷ []) ≡ kind_text k) (some_is output k w.1) (ap (λ (c : ℕ). c ∷ []) (eqb-true b 111 w.0))
          | inr w ↦ absurd (none_is_some k w.1)
        ]
      ]
    ]

kind_inner : (k : Kind) → Each is_inner (kind_text k)
kind_inner input = (refl, tt)
kind_inner _ = (refl, tt)

made : (b : ℕ) (bytes : List ℕ) (k : Kind) (n : ℕ) (text name rest : List ℕ) → (b ∷ []) ≡ kind_text k → IsField bytes n false text
    → HasLine text name rest → BeginsSymbol (b ∷ bytes) (symbol_of k n name) rest
made b bytes k n text name rest letter f has =
    let front = b ∷ f.digits in
    let inner : Each is_inner front = ((subst (Each is_inner) (sym letter) (kind_inner k)).0, digits_inner f.digits f.number.1) in
    let whole : HasLine (b ∷ bytes) (front ++ (32 ∷ name)) rest =
    longer_line front (b ∷ bytes) text name rest inner (ap (λ (t : List ℕ). b ∷ t) (spaced bytes n text f)) has in
    let same : front ++ (32 ∷ name) ≡ kind_text k ++ (f.digits ++ (32 ∷ name)) = ap (λ (t : List ℕ). t ++ (f.digits ++ (32 ∷ name))) letter in
    (_, subst (λ line. HasLine (b ∷ bytes) line rest) same whole, (f.digits, refl, f.number), f.small)

pub symbol_found : (bytes : List ℕ) (x : Symbol × List ℕ) → symbol_at bytes ≡ Some x → BeginsSymbol bytes x.0 x.1
unfolding symbol_at
symbol_found [] x e = absurd (none_is_some x e)
symbol_found (b ∷ bytes) x e = of_kind (kind_at b) refl e
  where
    of_name : (k : Kind) (n : ℕ) (text : List ℕ) → (b ∷ []) ≡ kind_text k → IsField bytes n false text → (read : Option Name)
        → name_at text ≡ read → (read >>= λ y. Some (symbol_of k n y.0, y.1)) ≡ Some x → BeginsSymbol (b ∷ bytes) x.0 x.1
    of_name k n text letter f None same e = absurd (none_is_some x e)
    of_name k n text letter f (Some y) same e =
        let name = name_found text y same in
        subst (λ (z : Symbol × List ℕ). BeginsSymbol (b ∷ bytes) z.0 z.1) (some_is (symbol_of k n y.0, y.1) x e)
        (made b bytes k n text y.0 y.1 letter f name)

    of_field : (k : Kind) → (b ∷ []) ≡ kind_text k → (read : Option Field) → field_at bytes ≡ read → (read >>= named_at k) ≡ Some x
        → BeginsSymbol (b ∷ bytes) x.0 x.1
    of_field k letter None same e = absurd (none_is_some x e)
    of_field k letter (Some (n, true, text)) same e = absurd (none_is_some x e)
    of_field k letter (Some (n, false, text)) same e =
        of_name k n text letter (field_found bytes (n, false, text) same) (name_at text) refl e

    of_kind : (read : Option Kind) → kind_at b ≡ read → (read >>= λ k. field_at bytes >>= named_at k) ≡ Some x → BeginsSymbol (b ∷ bytes) x.0 x.1
    of_kind None same e = absurd (none_is_some x e)
    of_kind (Some k) same e = of_field k (kind_found b k same) (field_at bytes) refl e

-- the letter of a kind, and the bytes behind it
letter : Kind → ℕ
letter input = 105
letter latch = 108
letter output = 111

letter_text : (k : Kind) → kind_text k ≡ letter k ∷ []
unfolding letter
letter_text input = refl
letter_text latch = refl
letter_text output = refl

kind_only : (k : Kind) → kind_at (letter k) ≡ Some k
unfolding letter
kind_only input = refl
kind_only latch = refl
kind_only output = refl

-- what a symbol's line looks like
record Looks (bytes : List ℕ) (s : Symbol) (rest : List ℕ) : Type 0 where
  digits : List ℕ
  text : List ℕ
  parts : bytes ≡ letter s.kind ∷ (digits ++ (32 ∷ text))
  number : IsNumber digits s.position
  name : HasLine text s.name rest

looks : (bytes : List ℕ) (s : Symbol) (rest : List ℕ) → BeginsSymbol bytes s rest → Looks bytes s rest
looks bytes s rest (line, has, (digits, whole, number), small) =
    let front = letter s.kind ∷ digits in
    let shape : line ≡ front ++ (32 ∷ s.name) = whole ∙ ap (λ (t : List ℕ). t ++ (digits ++ (32 ∷ s.name))) (letter_text s.kind) in
    let (text, parts, name) = shorter_line front bytes s.name rest (subst (λ t. HasLine bytes t rest) shape has) in
    record { digits = digits; text = text; parts = parts; number = number; name = name }

pub symbol_only : (bytes : List ℕ) (s : Symbol) (rest : List ℕ) → BeginsSymbol bytes s rest → symbol_at bytes ≡ Some (s, rest)
unfolding symbol_at
symbol_only bytes s rest is =
    let l = looks bytes s rest is in
    let f : IsField (l.digits ++ (32 ∷ l.text)) s.position false l.text =
    record { digits = l.digits; behind = 32 ∷ l.text; parts = refl; mark = refl; number = l.number; small = is.3 } in
    let field : field_at (l.digits ++ (32 ∷ l.text)) ≡ Some (s.position, false, l.text) =
    field_only (l.digits ++ (32 ∷ l.text)) s.position false l.text f in
    rw (l.parts, kind_only s.kind, field, name_only l.text s.name rest l.name) refl

-- ---- symbols that name something

pub good_found : (header : Header) (circuit : Circuit) → ((k : Kind) → count_of circuit k ≡ count_in header k)
    → (v : ℕ) (bytes : List ℕ) (x : Symbol × List ℕ) → good_at header bytes ≡ Some x → IsSymbol circuit v bytes x.0 x.1
unfolding good_at
good_found header circuit counts v bytes x e = of_symbol (symbol_at bytes) refl e
  where
    of_symbol : (read : Option (Symbol × List ℕ)) → symbol_at bytes ≡ read
        → (read >>= λ y. if ltb y.0.position (count_in header y.0.kind) then Some y else None) ≡ Some x → IsSymbol circuit v bytes x.0 x.1
    of_symbol None same e = absurd (none_is_some x e)
    of_symbol (Some y) same e =
        elim (chosen (ltb y.0.position (count_in header y.0.kind)) (some y) none (some x) e) [
          | inl w ↦
              let is = symbol_found bytes y same in
              let below : y.0.position < count_of circuit y.0.kind = subst (λ n. y.0.position < n) (sym (counts y.0.kind)) (ltb-true _ _ w.0) in
              subst (λ (z : Symbol × List ℕ). IsSymbol circuit v bytes z.0 z.1) (some_is y x w.1) (is, below)
          | inr w ↦ absurd (none_is_some x w.1)
        ]

pub good_only : (header : Header) (circuit : Circuit) → ((k : Kind) → count_of circuit k ≡ count_in header k)
    → (v : ℕ) (bytes : List ℕ) (s : Symbol) (rest : List ℕ) → IsSymbol circuit v bytes s rest → good_at header bytes ≡ Some (s, rest)
unfolding good_at
good_only header circuit counts v bytes s rest (is, below) =
    let within : ltb s.position (count_in header s.kind) ≡ true = lt-ltb _ _ (subst (λ n. s.position < n) (counts s.kind) below) in
    rw (symbol_only bytes s rest is, within) refl

-- ---- the end

blank_more : (rest : List ℕ) → is_blank (10 ∷ rest) ≡ is_blank rest
unfolding is_blank
blank_more [] = refl
blank_more (b ∷ rest) = refl

-- an empty line changes nothing
pub blank_behind : (bytes rest : List ℕ) → newline_at bytes ≡ Some rest → is_blank bytes ≡ is_blank rest
unfolding is_blank
blank_behind bytes rest e =
    elim (newline_found bytes rest e) [ inl same ↦ ap is_blank same ∙ blank_more rest | inr same ↦ rw same refl ]

not_blank : (b : ℕ) (bytes : List ℕ) → newline_at (b ∷ bytes) ≡ None → is_blank (b ∷ bytes) ≡ false
unfolding is_blank
not_blank b [] e =
    elim (cases_Bool (eqb b 10)) [ inl h ↦ absurd (none_is_some [] (sym e ∙ rw h refl)) | inr h ↦ h ]
not_blank b (c ∷ rest) e =
    elim (chosen (eqb b 10) (some (c ∷ rest)) _ none e) [
      | inl w ↦ absurd (none_is_some (c ∷ rest) (sym w.1))
      | inr v ↦ elim (chosen (eqb b 13 && eqb c 10) (some rest) none none v.1) [
        | inl w ↦ absurd (none_is_some rest (sym w.1))
        | inr w ↦ rw (v.0, w.0) refl
      ]
    ]

-- where no line ends at once, only the end is blank
pub blank_alone : (bytes : List ℕ) → newline_at bytes ≡ None → (length bytes == 0) ≡ is_blank bytes
unfolding is_blank
blank_alone [] e = refl
blank_alone (b ∷ bytes) e = eqb-suc-zero (length bytes) ∙ sym (not_blank b bytes e)

empty_line : (bytes rest : List ℕ) → IsNewline bytes rest → HasLine bytes [] rest
empty_line bytes rest newline = line_made [] bytes bytes rest tt refl newline

blank_found : (bytes : List ℕ) → is_blank bytes ≡ true → (count : ℕ) × AreEmptyLines count bytes
unfolding is_blank
blank_found [] e = (0, refl)
blank_found (b ∷ []) e =
    let newline : IsNewline (b ∷ []) [] = inl (ap (λ (c : ℕ). c ∷ []) (eqb-true b 10 e)) in
    (1, ([], empty_line (b ∷ []) [] newline, refl))
blank_found (b ∷ c ∷ rest) e =
    elim (chosen (eqb b 10) (is_blank (c ∷ rest)) _ true e) [
      | inl w ↦
          let (count, are) = blank_found (c ∷ rest) w.1 in
          let newline : IsNewline (b ∷ c ∷ rest) (c ∷ rest) = inl (ap (λ (d : ℕ). d ∷ c ∷ rest) (eqb-true b 10 w.0)) in
          (suc count, (c ∷ rest, empty_line (b ∷ c ∷ rest) (c ∷ rest) newline, are))
      | inr w ↦
          let both = and_parts (eqb b 13 && eqb c 10) (is_blank rest) w.1 in
          let marks = and_parts (eqb b 13) (eqb c 10) both.0 in
          let (count, are) = blank_found rest both.1 in
          let newline : IsNewline (b ∷ c ∷ rest) rest =
          inr (ap (λ (d : ℕ). d ∷ c ∷ rest) (eqb-true b 13 marks.0) ∙ ap (λ (d : ℕ). 13 ∷ d ∷ rest) (eqb-true c 10 marks.1)) in
          (suc count, (rest, empty_line (b ∷ c ∷ rest) rest newline, are))
    ]

blank_only : (count : ℕ) (bytes : List ℕ) → AreEmptyLines count bytes → is_blank bytes ≡ true
unfolding is_blank
blank_only zero bytes e = rw e refl
blank_only (suc count) bytes (rest, has, are) =
    let (behind, parts, newline) = newline_of bytes [] rest has in
    blank_behind bytes rest (newline_only bytes rest (subst (λ t. IsNewline t rest) (sym parts) newline)) ∙ blank_only count rest are

end_found : (bytes : List ℕ) → is_end bytes ≡ true → IsComment bytes
unfolding is_end
end_found [] e = inl (blank_found [] e)
end_found (b ∷ rest) e =
    elim (cases_Bool (eqb b 99)) [
      | inl h ↦ inr (rest, ap (λ (c : ℕ). c ∷ rest) (eqb-true b 99 h))
      | inr h ↦ inl (blank_found (b ∷ rest) (rw h at e))
    ]

or_true : (b : Bool) → b || true ≡ true
or_true true = refl
or_true false = refl

end_only : (bytes : List ℕ) → IsComment bytes → is_end bytes ≡ true
unfolding is_end
end_only bytes (inl (count, are)) = rw (blank_only count bytes are) (or_true (is_comment bytes))
end_only bytes (inr (rest, e)) = rw e refl

no_end : (k : Kind) (bytes : List ℕ) → is_end (letter k ∷ bytes) ≡ false
unfolding letter is_end is_blank
no_end input [] = refl
no_end input (b ∷ bytes) = refl
no_end latch [] = refl
no_end latch (b ∷ bytes) = refl
no_end output [] = refl
no_end output (b ∷ bytes) = refl

symbol_no_end : (bytes : List ℕ) (s : Symbol) (rest : List ℕ) → BeginsSymbol bytes s rest → is_end bytes ≡ false
symbol_no_end bytes s rest is = let l = looks bytes s rest is in rw l.parts (no_end s.kind _)

-- ---- all symbols

pub record Symbols (circuit : Circuit) (v : ℕ) (bytes : List ℕ) (xs : List Symbol) : Type 0 where
  pub comment : List ℕ
  pub are : AreItems (IsSymbol circuit) v bytes xs comment
  pub ends : IsComment comment

pub symbols_found : (header : Header) (circuit : Circuit) → ((k : Kind) → count_of circuit k ≡ count_in header k)
    → (n v : ℕ) (bytes : List ℕ) (xs : List Symbol) → symbols_at header n bytes ≡ Some xs → Symbols circuit v bytes xs
unfolding symbols_at
symbols_found header circuit counts zero v bytes xs e = absurd (none_is_some xs e)
symbols_found header circuit counts (suc n) v bytes xs e =
    elim (chosen (is_end bytes) (some []) _ (some xs) e) [
      | inl w ↦ subst (Symbols circuit v bytes) (some_is [] xs w.1) (record { comment = bytes; are = refl; ends = end_found bytes w.0 })
      | inr w ↦ of_symbol (λ after ys same. symbols_found header circuit counts n (suc v) after ys same) (good_at header bytes) refl w.1
    ]
  where
    of_rest : ((after : List ℕ) (ys : List Symbol) → symbols_at header n after ≡ Some ys → Symbols circuit (suc v) after ys)
        → (y : Symbol × List ℕ) → IsSymbol circuit v bytes y.0 y.1 → (read : Option (List Symbol)) → symbols_at header n y.1 ≡ read
        → (read >>= λ ys. Some (y.0 ∷ ys)) ≡ Some xs → Symbols circuit v bytes xs
    of_rest again y is None same e = absurd (none_is_some xs e)
    of_rest again y is (Some ys) same e =
        let below = again y.1 ys same in
        subst (Symbols circuit v bytes) (some_is (y.0 ∷ ys) xs e) (record { comment = below.comment; are = (y.1, is, below.are); ends = below.ends })

    of_symbol : ((after : List ℕ) (ys : List Symbol) → symbols_at header n after ≡ Some ys → Symbols circuit (suc v) after ys)
        → (read : Option (Symbol × List ℕ)) → good_at header bytes ≡ read
        → (read >>= λ y. symbols_at header n y.1 >>= λ ys. Some (y.0 ∷ ys)) ≡ Some xs → Symbols circuit v bytes xs
    of_symbol again None same e = absurd (none_is_some xs e)
    of_symbol again (Some y) same e = of_rest again y (good_found header circuit counts v bytes y same) (symbols_at header n y.1) refl e

symbols_only : (header : Header) (circuit : Circuit) → ((k : Kind) → count_of circuit k ≡ count_in header k)
    → (xs : List Symbol) (n v : ℕ) (bytes comment : List ℕ) → AreItems (IsSymbol circuit) v bytes xs comment → IsComment comment → length bytes < n
    → symbols_at header n bytes ≡ Some xs
unfolding symbols_at
symbols_only header circuit counts xs zero v bytes comment are ends few = absurd (omega arith)
symbols_only header circuit counts [] (suc n) v bytes comment are ends few =
    rw (end_only bytes (subst IsComment (sym are) ends)) refl
symbols_only header circuit counts (x ∷ xs) (suc n) v bytes comment (middle, is, are) ends few =
    let shorter = line_takes bytes is.0.0 middle is.0.1 in
    let others = symbols_only header circuit counts xs n (suc v) middle comment are ends (omega (arith, shorter, few)) in
    rw (symbol_no_end bytes x middle is.0, good_only header circuit counts v bytes x middle is, others) refl

pub all_symbols_only : (header : Header) (circuit : Circuit) → ((k : Kind) → count_of circuit k ≡ count_in header k)
    → (xs : List Symbol) (v : ℕ) (bytes comment : List ℕ) → AreItems (IsSymbol circuit) v bytes xs comment → IsComment comment
    → symbols_at header (length bytes + 1) bytes ≡ Some xs
all_symbols_only header circuit counts xs v bytes comment are ends =
    symbols_only header circuit counts xs (length bytes + 1) v bytes comment are ends (omega arith)
