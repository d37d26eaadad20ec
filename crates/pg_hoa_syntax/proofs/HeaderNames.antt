-- Which headers are written, token by token.
use Rattle.pg_hoa_syntax.proofs.Common.{◌≡◌, ◌∙◌, ℕ, ◌<◌, ◌||◌, Bool, true, false, cond, List, [], ◌∷◌, ◌++◌, map, length, Option, Some, None}
use Rattle.pg_hoa_syntax.proofs.Common.{refl, sym, ap, codes, append_assoc, unwrap_or, bytes_eq, list_any, flat_map, AllByRecursion, Formula}
use Rattle.pg_hoa_syntax.proofs.Common.{yes, no, proposition, inf, fin, not, both, either, bracket, formula_lexemes, Lexeme, number, identifier}
use Rattle.pg_hoa_syntax.proofs.Common.{header, string, body, right_paren, ampersand, bar, Character, first, some_is, none_is_some, Header}
use Rattle.pg_hoa_syntax.proofs.Common.{IsText, Written, header_lexemes, state_lexemes, value_lexeme, text_lexemes, controls, end, lex}
use Rattle.pg_hoa_syntax.proofs.Common.{opening_at, version_at}
use Rattle.pg_hoa_syntax.specs.Syntax as text
use Rattle.pg_hoa_syntax.specs.Mirrors.HeaderNames.{decided, named_from, behind_version}
use Rattle.pg_hoa_syntax.specs.Headers.{header_name, has_header}
use Rattle.pg_hoa_syntax.proofs.Lists.{all_of_both}
use Rattle.pg_hoa_syntax.proofs.Spelling.{spelt_lex}
use Rattle.pg_hoa_syntax.proofs.Turning.{first_end, first_token}
use Rattle.pg_hoa_syntax.proofs.HeaderTurns.{taken}

-- ---- one token

pub named_now : (name : List ℕ) (ts after : List Lexeme) (t : Option Lexeme) (b : Bool) → first ts ≡ Some (t, after)
    → decided name t ≡ Some b → named_from name ts ≡ b
unfolding named_from
named_now name ts after None b e d = rw (first_end ts after e).0 (some_is false b d)
named_now name ts after (Some t) b e d = rw (first_token ts t after e, d) refl

pub named_on : (name : List ℕ) (ts after : List Lexeme) (t : Option Lexeme) → first ts ≡ Some (t, after) → decided name t ≡ None
    → named_from name ts ≡ named_from name after
unfolding named_from
named_on name ts after None e d = absurd (none_is_some false (sym d))
named_on name ts after (Some t) e d = rw (first_token ts t after e, d) refl

pub on_shorter : (name : List ℕ) (ts after : List Lexeme) (t : Option Lexeme) → first ts ≡ Some (t, after) → decided name t ≡ None
    → length after < length ts
on_shorter name ts after None e d = absurd (none_is_some false (sym d))
on_shorter name ts after (Some t) e d = taken ts after t e

-- ---- what stands behind the name of a header

-- neither `--BODY--` nor a header's name
abbrev IsPlain : Lexeme → Type 0
IsPlain body = ⊥
IsPlain (header w) = ⊥
IsPlain t = Unit {0}

plain_over : (name : List ℕ) (ts more : List Lexeme) → AllByRecursion IsPlain ts → named_from name (ts ++ more) ≡ named_from name more
unfolding named_from
plain_over name [] more all = refl
plain_over name (body ∷ ts) more all = absurd all.0
plain_over name (header w ∷ ts) more all = absurd all.0
plain_over name (t ∷ ts) more all = plain_over name ts more all.1

plain_numbers : (ns : List ℕ) → AllByRecursion IsPlain (map number ns)
plain_numbers [] = tt
plain_numbers (n ∷ ns) = (tt, plain_numbers ns)

plain_strings : (ns : List (List Character)) → AllByRecursion IsPlain (map string ns)
plain_strings [] = tt
plain_strings (n ∷ ns) = (tt, plain_strings ns)

plain_values : (vs : List text.Value) → AllByRecursion IsPlain (map value_lexeme vs)
plain_values [] = tt
plain_values (text.numeral n ∷ vs) = (tt, plain_values vs)
plain_values (text.word w ∷ vs) = (tt, plain_values vs)
plain_values (text.quoted s ∷ vs) = (tt, plain_values vs)

plain_formula : (f : Formula) → AllByRecursion IsPlain (formula_lexemes f)
plain_formula yes = (tt, tt)
plain_formula no = (tt, tt)
plain_formula (proposition a) = (tt, tt)
plain_formula (inf s) = (tt, (tt, (tt, (tt, tt))))
plain_formula (fin s) = (tt, (tt, (tt, (tt, tt))))
plain_formula (not f) = (tt, plain_formula f)
plain_formula (both f g) =
    all_of_both IsPlain (formula_lexemes f) (ampersand ∷ formula_lexemes g) (plain_formula f) (tt, plain_formula g)
plain_formula (either f g) = all_of_both IsPlain (formula_lexemes f) (bar ∷ formula_lexemes g) (plain_formula f) (tt, plain_formula g)
plain_formula (bracket f) = (tt, all_of_both IsPlain (formula_lexemes f) (right_paren ∷ []) (plain_formula f) (tt, tt))

-- ---- header by header

decides : (b x y : Bool) → x ≡ y → unwrap_or (cond b (Some true) None) x ≡ (b || y)
decides true x y e = refl
decides false x y e = e

one_named : (name : List ℕ) (h : Header) (more : List Lexeme)
    → named_from name (header_lexemes h ++ more) ≡ (bytes_eq (header_name h) name || named_from name more)
unfolding named_from
one_named name (text.states n) more = decides (bytes_eq (codes "States") name) _ _ refl
one_named name (text.start q) more = decides (bytes_eq (codes "Start") name) _ _ refl
one_named name (text.propositions ns) more =
    decides (bytes_eq (codes "AP") name) _ _ (plain_over name (number (length ns) ∷ map string ns) more (tt, plain_strings ns))
one_named name (text.acceptance n f) more =
    decides (bytes_eq (codes "Acceptance") name) _ _ (plain_over name (number n ∷ formula_lexemes f) more (tt, plain_formula f))
one_named name (text.controllable ns) more =
    decides (bytes_eq (codes "controllable-AP") name) _ _ (plain_over name (map number ns) more (plain_numbers ns))
one_named name (text.skipped w values) more =
    decides (bytes_eq w name) _ _ (plain_over name (map value_lexeme values) more (plain_values values))

all_named : (name : List ℕ) (hs : List Header) (rest : List Lexeme)
    → named_from name (flat_map header_lexemes hs ++ (body ∷ rest)) ≡ list_any (λ h. bytes_eq (header_name h) name) hs
unfolding named_from
all_named name [] rest = refl
all_named name (h ∷ hs) rest =
    ap (named_from name) (append_assoc (header_lexemes h) (flat_map header_lexemes hs) (body ∷ rest))
    ∙ one_named name h (flat_map header_lexemes hs ++ (body ∷ rest))
    ∙ ap (λ (b : Bool). bytes_eq (header_name h) name || b) (all_named name hs rest)

-- ---- the whole text

version_behind : (tokens named rest behind : List Lexeme) → tokens ≡ header (codes "HOA") ∷ identifier (codes "v1") ∷ behind
    → opening_at tokens ≡ Some named → version_at named ≡ Some rest → rest ≡ behind
unfolding opening_at version_at
version_behind tokens named rest behind is o v =
    let opened : Some (identifier (codes "v1") ∷ behind) ≡ Some named = rw is at o in
    let named_is = some_is (identifier (codes "v1") ∷ behind) named opened in
    let found : Some behind ≡ Some rest = rw (← named_is) at v in
    sym (some_is behind rest found)

pub version_rest : (bytes opened rest : List ℕ) (w : Written) → IsText bytes w → opening_at (lex bytes) ≡ Some (lex opened)
    → version_at (lex opened) ≡ Some (lex rest) → lex rest ≡ behind_version w
version_rest bytes opened rest w t o v =
    version_behind (lex bytes) (lex opened) (lex rest) (behind_version w) (spelt_lex bytes (text_lexemes w) t.spelt) o v

pub is_written : (name : List ℕ) (w : Written) (tokens : List Lexeme) (b : Bool) → tokens ≡ behind_version w → named_from name tokens ≡ b
    → b ≡ has_header name w
is_written name w tokens b is e =
    sym e ∙ ap (named_from name) is ∙ all_named name w.headers (flat_map state_lexemes w.lines ++ (end ∷ []))

-- ---- what is not written isn't said

or_false : (a b : Bool) → (a || b) ≡ false → b ≡ false
or_false true b e = absurd cc
or_false false b e = e

abbrev controlled : List Header → Bool
controlled hs = list_any (λ h. bytes_eq (header_name h) (codes "controllable-AP")) hs

later : (h : Header) (hs : List Header) → controlled (h ∷ hs) ≡ false → controlled hs ≡ false
later h hs e = or_false (bytes_eq (header_name h) (codes "controllable-AP")) (controlled hs) e

uncontrolled : (hs : List Header) → controlled hs ≡ false → flat_map controls hs ≡ []
uncontrolled [] e = refl
uncontrolled (text.states n ∷ hs) e = uncontrolled hs (later (text.states n) hs e)
uncontrolled (text.start q ∷ hs) e = uncontrolled hs (later (text.start q) hs e)
uncontrolled (text.propositions ns ∷ hs) e = uncontrolled hs (later (text.propositions ns) hs e)
uncontrolled (text.acceptance n f ∷ hs) e = uncontrolled hs (later (text.acceptance n f) hs e)
uncontrolled (text.controllable ns ∷ hs) e = absurd cc
uncontrolled (text.skipped w values ∷ hs) e = uncontrolled hs (later (text.skipped w values) hs e)

pub no_controls : (w : Written) → has_header (codes "controllable-AP") w ≡ false → flat_map controls w.headers ≡ []
no_controls w e = uncontrolled w.headers e
