-- What the reader of headers does, token by token. The laws about it are in proofs/.
use Rattle.std.specs.Prelude.{ℕ, suc, zero, Bool, true, false, ◌&&◌, ◌||◌, ◌==◌, List, [], ◌∷◌, ◌++◌, length, map, Option, Some, None}
use Rattle.std.specs.Prelude.{codes, get_or, min, nat_lt, nat_le, if◌then◌else◌}
use Rattle.std.specs.Str.{bytes_eq}
use Rattle.std.specs.List.{list_all, list_any}
use Rattle.pg_hoa_syntax.specs.declared.formula.FormulaKind.TheVariants.{Condition}
use Rattle.pg_hoa_syntax.specs.Lexemes.{Lexeme, number, identifier, header, string, body, ampersand, stray}
use Rattle.pg_hoa_automaton.specs.Mirrors.Steps.{◌>>=◌}
use Rattle.pg_hoa_syntax.specs.Mirrors.Scan.{first}
use Rattle.pg_hoa_syntax.specs.Mirrors.FormulaRun.{ops_at}
use Rattle.pg_hoa_syntax.specs.Syntax.{character_code}
use Rattle.pg_hoa_syntax.specs.Mirrors.Kept.{KeptHead}

-- ---- values

abbrev pub numeral_of : Option Lexeme → Option ℕ
numeral_of (Some (number n)) = Some n
numeral_of _ = None

-- a number of at most this limit at the start
unfoldable pub numeral_at : ℕ → List Lexeme → Option (ℕ × List Lexeme)
numeral_at limit tokens = first tokens >>= λ x. numeral_of x.0 >>= λ n. if nat_lt limit n then None else Some (n, x.1)

abbrev pub behind_start : Option Lexeme → List Lexeme → Option (List Lexeme)
behind_start (Some ampersand) tokens = None
behind_start _ tokens = Some tokens

-- the tokens after the number of a start, unless the first of them is `&`
unfoldable pub alone_at : List Lexeme → Option (List Lexeme)
alone_at tokens = first tokens >>= λ x. behind_start x.0 tokens

-- numbers appended to others, up to another token
unfoldable pub numbers_from : List ℕ → List Lexeme → Option (List ℕ × List Lexeme)
numbers_from ns [] = Some (ns, [])
numbers_from ns (number n ∷ rest) = numbers_from (ns ++ (n ∷ [])) rest
numbers_from ns (stray ∷ rest) = None
numbers_from ns (t ∷ rest) = Some (ns, t ∷ rest)

-- a number appended to others, unless it is among them; all numbers from 16 on are noted as 16
abbrev pub note : List ℕ → ℕ → List ℕ
note kept n = if list_any (λ m. m == min n 16) kept then kept else kept ++ (min n 16 ∷ [])

abbrev pub noted_behind : List ℕ → List ℕ → List ℕ
noted_behind kept [] = kept
noted_behind kept (n ∷ ns) = noted_behind (note kept n) ns

abbrev pub noted : List ℕ → List ℕ
noted ns = noted_behind [] ns

unfoldable pub noted_at : List Lexeme → Option (List ℕ × List Lexeme)
noted_at tokens = numbers_from [] tokens >>= λ x. Some (noted x.0, x.1)

abbrev pub is_value : Option Lexeme → Bool
is_value (Some (number n)) = true
is_value (Some (identifier w)) = true
is_value (Some (string s)) = true
is_value _ = false

-- the tokens after numbers, identifiers and strings
unfoldable pub skipped_from : List Lexeme → Option (List Lexeme)
skipped_from [] = Some []
skipped_from (number n ∷ rest) = skipped_from rest
skipped_from (identifier w ∷ rest) = skipped_from rest
skipped_from (string s ∷ rest) = skipped_from rest
skipped_from (stray ∷ rest) = None
skipped_from (t ∷ rest) = Some (t ∷ rest)

-- the first character of a string's content, without a backslash before it, and the bytes after it
abbrev pub code_at : List ℕ → Option (ℕ × List ℕ)
code_at [] = None
code_at (b ∷ []) = Some (b, [])
code_at (b ∷ c ∷ bytes) = if b == 92 then Some (c, bytes) else Some (b, c ∷ bytes)

abbrev pub is_name_byte : ℕ → Bool
is_name_byte b = nat_le 32 b && (if b == 127 then false else true)

abbrev pub is_name : List ℕ → Bool
is_name [] = false
is_name (b ∷ bytes) = list_all is_name_byte (b ∷ bytes)

-- a name, if it is a good one
unfoldable pub name_of : List ℕ → Option (List ℕ)
name_of name = if is_name name then Some name else None

abbrev pub quoted_of : Option Lexeme → Option (List ℕ)
quoted_of (Some (string s)) = name_of (map character_code s)
quoted_of _ = None

-- a string that is a good name
unfoldable pub quoted_at : List Lexeme → Option (List ℕ × List Lexeme)
quoted_at tokens = first tokens >>= λ x. quoted_of x.0 >>= λ name. Some (name, x.1)

-- the given number of names appended to others
unfoldable pub names_from : ℕ → List (List ℕ) → List Lexeme → Option (List (List ℕ) × List Lexeme)
names_from zero names tokens = Some (names, tokens)
names_from (suc n) names tokens = quoted_at tokens >>= λ x. names_from n (names ++ (x.0 ∷ [])) x.1

-- ---- one header, whose name comes before the tokens

-- fails if there was a header of this name before
abbrev pub once : {A B : Type 0} → Option A → Option B → Option B
once None next = next
once (Some x) next = None

unfoldable pub states_at : KeptHead → List Lexeme → Option (KeptHead × List Lexeme)
states_at h tokens = once h.states (numeral_at 65535 tokens >>= λ x. Some (record h { states = Some x.0 }, x.1))

unfoldable pub start_at : KeptHead → List Lexeme → Option (KeptHead × List Lexeme)
start_at h tokens =
    once h.start (numeral_at 65534 tokens >>= λ x. alone_at x.1 >>= λ rest. Some (record h { start = Some x.0 }, rest))

unfoldable pub names_at : KeptHead → List Lexeme → Option (KeptHead × List Lexeme)
names_at h tokens =
    once h.names (numeral_at 16 tokens >>= λ x. names_from x.0 [] x.1 >>= λ y. Some (record h { names = Some y.0 }, y.1))

unfoldable pub acceptance_at : KeptHead → List Lexeme → Option (KeptHead × List Lexeme)
acceptance_at h tokens =
    once h.acceptance (numeral_at 4096 tokens >>= λ x. ops_at (Condition x.0) x.1 >>= λ y.
    Some (record h { acceptance = Some (x.0, y.0) }, y.1))

unfoldable pub controls_at : KeptHead → List Lexeme → Option (KeptHead × List Lexeme)
controls_at h tokens = once h.controls (noted_at tokens >>= λ x. Some (record h { controls = Some x.0 }, x.1))

-- a name that begins with a lower-case letter or `_`
abbrev pub begins_low : List ℕ → Bool
begins_low name = nat_le 97 (get_or name 0 0) || get_or name 0 0 == 95

unfoldable pub other_at : KeptHead → List ℕ → List Lexeme → Option (KeptHead × List Lexeme)
other_at h name tokens = if begins_low name then (skipped_from tokens >>= λ rest. Some (h, rest)) else None

unfoldable pub header_at : KeptHead → List ℕ → List Lexeme → Option (KeptHead × List Lexeme)
header_at h name tokens =
    if bytes_eq name (codes "States") then states_at h tokens
    else (if bytes_eq name (codes "Start") then start_at h tokens
    else (if bytes_eq name (codes "AP") then names_at h tokens
    else (if bytes_eq name (codes "Acceptance") then acceptance_at h tokens
    else (if bytes_eq name (codes "controllable-AP") then controls_at h tokens
    else other_at h name tokens))))

-- ---- all headers

abbrev pub empty_head : KeptHead
empty_head = record { states = None; start = None; names = None; controls = None; acceptance = None }

-- headers after others, up to a given number of them, and the tokens after their `--BODY--`
unfoldable pub headers_within : ℕ → KeptHead → List Lexeme → Option (KeptHead × List Lexeme)
headers_within zero h tokens = None
headers_within (suc n) h (body ∷ rest) = Some (h, rest)
headers_within (suc n) h (header name ∷ rest) = header_at h name rest >>= λ x. headers_within n x.0 x.1
headers_within (suc n) h tokens = None

unfoldable pub headers_from : KeptHead → List Lexeme → Option (KeptHead × List Lexeme)
headers_from h tokens = headers_within (suc (length tokens)) h tokens

abbrev pub is_header : List ℕ → Option Lexeme → Bool
is_header word (Some (header w)) = bytes_eq w word
is_header word _ = false

abbrev pub is_word : List ℕ → Option Lexeme → Bool
is_word word (Some (identifier w)) = bytes_eq w word
is_word word _ = false

-- the tokens after `HOA:`
unfoldable pub opening_at : List Lexeme → Option (List Lexeme)
opening_at tokens = first tokens >>= λ x. if is_header (codes "HOA") x.0 then Some x.1 else None

-- the tokens after `v1`
unfoldable pub version_at : List Lexeme → Option (List Lexeme)
version_at tokens = first tokens >>= λ x. if is_word (codes "v1") x.0 then Some x.1 else None

-- the contents of the headers, and the tokens after their `--BODY--`
unfoldable pub headers_at : List Lexeme → Option (KeptHead × List Lexeme)
headers_at tokens = opening_at tokens >>= λ named. version_at named >>= λ rest. headers_from empty_head rest
