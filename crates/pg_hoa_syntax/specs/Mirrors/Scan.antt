-- What the scanner's functions compute, token by token. The laws about it are in proofs/.
use Rattle.std.specs.Prelude.{ℕ, suc, zero, ◌+◌, ◌-◌, ◌^◌, ◌==◌, ◌&&◌, ◌||◌, List, [], ◌∷◌, length, take, drop, Option, Some, None, nat_lt}
use Rattle.std.specs.Prelude.{if◌then◌else◌, codes}
use Rattle.std.specs.Str.{bytes_eq}
use Rattle.std.specs.List.{prefix_len, take_while}
use Rattle.pg_hoa_syntax.specs.declared.token.HoaToken.{HoaToken}
use Rattle.pg_hoa_syntax.specs.declared.token.HoaToken.TheVariants as tokens
use Rattle.pg_hoa_automaton.specs.Mirrors.Steps.{◌>>=◌}
use Rattle.pg_hoa_syntax.specs.Lexemes.{Lexeme, number, identifier, header, string, alias, body, end, abort, left_bracket, right_bracket}
use Rattle.pg_hoa_syntax.specs.Lexemes.{left_brace, right_brace, left_paren, right_paren, bang, ampersand, bar, stray, Character, plain}
use Rattle.pg_hoa_syntax.specs.Lexemes.{escaped}
use Rattle.pg_hoa_syntax.specs.Lexemes.{is_space, is_letter, is_inner, is_colon}
use Rattle.pg_list_lemmas.specs.Bytes.{is_digit, value_of}

-- the characters of a string's content
abbrev pub characters : List ℕ → List Character
characters [] = []
characters (b ∷ []) = plain b ∷ []
characters (b ∷ c ∷ bytes) = if b == 92 then escaped c ∷ characters bytes else plain b ∷ characters (c ∷ bytes)

-- a token, apart from its place in memory
abbrev pub lexeme : HoaToken → Lexeme
lexeme (tokens.Number n) = number n
lexeme (tokens.Identifier w) = identifier w.now
lexeme (tokens.Header w) = header w.now
lexeme (tokens.String s) = string (characters s.now)
lexeme (tokens.Alias w) = alias w.now
lexeme tokens.Body = body
lexeme tokens.End = end
lexeme tokens.Abort = abort
lexeme tokens.LeftBracket = left_bracket
lexeme tokens.RightBracket = right_bracket
lexeme tokens.LeftBrace = left_brace
lexeme tokens.RightBrace = right_brace
lexeme tokens.LeftParen = left_paren
lexeme tokens.RightParen = right_paren
lexeme tokens.Bang = bang
lexeme tokens.Ampersand = ampersand
lexeme tokens.Bar = bar

-- one blank or a part of the comments, of which the given number is open: the number open after it, and the bytes after
-- it; nothing is taken at a token or the end
unfoldable pub gap_step : ℕ → List ℕ → Option (Option (ℕ × List ℕ))
gap_step deep [] = if deep == 0 then Some None else None
gap_step deep (b ∷ []) =
    if deep == 0 then (if is_space b then Some (Some (0, [])) else Some None)
    else None
gap_step deep (b ∷ c ∷ bytes) =
    if deep == 0
    then (if is_space b then Some (Some (0, c ∷ bytes))
    else (if b == 47 && c == 42 then Some (Some (1, bytes))
    else Some None))
    else (if b == 47 && c == 42 then (if nat_lt deep 8192 then Some (Some (deep + 1, bytes)) else None)
    else (if b == 42 && c == 47 then Some (Some (deep - 1, bytes))
    else Some (Some (deep, c ∷ bytes))))

abbrev pub behind_blank : (ℕ → List ℕ → Option (List ℕ)) → List ℕ → Option (ℕ × List ℕ) → Option (List ℕ)
behind_blank again bytes None = Some bytes
behind_blank again bytes (Some (deep, rest)) = again deep rest

unfoldable pub gap_within : ℕ → ℕ → List ℕ → Option (List ℕ)
gap_within zero deep bytes = None
gap_within (suc n) deep bytes = gap_step deep bytes >>= behind_blank (gap_within n) bytes

-- the bytes after white space and comments, of which the given number is open
unfoldable pub gap_from : ℕ → List ℕ → Option (List ℕ)
gap_from deep bytes = gap_within (suc (length bytes)) deep bytes

unfoldable pub number_at : List ℕ → Option (Lexeme × List ℕ)
number_at bytes =
    if nat_lt (value_of (take_while is_digit bytes)) (2 ^ 32)
    then Some (number (value_of (take_while is_digit bytes)), drop (prefix_len is_digit bytes) bytes)
    else None

abbrev pub name_before : List ℕ → List ℕ → Lexeme × List ℕ
name_before w [] = (identifier w, [])
name_before w (b ∷ rest) = if is_colon b then (header w, rest) else (identifier w, b ∷ rest)

unfoldable pub name_at : List ℕ → Option (Lexeme × List ℕ)
name_at bytes = Some (name_before (take_while is_inner bytes) (drop (prefix_len is_inner bytes) bytes))

-- the number of bytes of one character of a string, and the bytes after it; nothing at the quote that ends the string
unfoldable pub character_at : List ℕ → Option (Option (ℕ × List ℕ))
character_at [] = None
character_at (b ∷ []) =
    if b == 34 then Some None
    else (if b == 92 then None
    else Some (Some (1, [])))
character_at (b ∷ c ∷ bytes) =
    if b == 34 then Some None
    else (if b == 92 then Some (Some (2, bytes))
    else Some (Some (1, c ∷ bytes)))

-- the number of bytes before the quote that ends a string
unfoldable pub string_len : List ℕ → Option ℕ
string_len [] = None
string_len (b ∷ []) = if b == 34 then Some 0 else None
string_len (b ∷ c ∷ bytes) =
    if b == 34 then Some 0
    else (if b == 92 then (string_len bytes >>= λ n. Some (n + 2))
    else (string_len (c ∷ bytes) >>= λ n. Some (n + 1)))

-- a string, after its first quote
unfoldable pub string_at : List ℕ → Option (Lexeme × List ℕ)
string_at bytes = string_len bytes >>= λ n. Some (string (characters (take n bytes)), drop (n + 1) bytes)

-- an alias, after its `@`
unfoldable pub alias_at : List ℕ → Option (Lexeme × List ℕ)
alias_at bytes =
    if prefix_len is_inner bytes == 0 then None
    else Some (alias (take_while is_inner bytes), drop (prefix_len is_inner bytes) bytes)

unfoldable pub mark_at : List ℕ → Option (Lexeme × List ℕ)
mark_at bytes =
    if bytes_eq (take 8 bytes) (codes "--BODY--") then Some (body, drop 8 bytes)
    else (if bytes_eq (take 7 bytes) (codes "--END--") then Some (end, drop 7 bytes)
    else (if bytes_eq (take 9 bytes) (codes "--ABORT--") then Some (abort, drop 9 bytes)
    else None))

unfoldable pub sign_at : ℕ → List ℕ → Option (Lexeme × List ℕ)
sign_at b rest =
    if b == 91 then Some (left_bracket, rest)
    else (if b == 93 then Some (right_bracket, rest)
    else (if b == 123 then Some (left_brace, rest)
    else (if b == 125 then Some (right_brace, rest)
    else (if b == 40 then Some (left_paren, rest)
    else (if b == 41 then Some (right_paren, rest)
    else (if b == 33 then Some (bang, rest)
    else (if b == 38 then Some (ampersand, rest)
    else (if b == 124 then Some (bar, rest)
    else None))))))))

unfoldable pub solid_at : List ℕ → Option (Lexeme × List ℕ)
solid_at [] = None
solid_at (b ∷ bytes) =
    if is_digit b then number_at (b ∷ bytes)
    else (if is_letter b || b == 95 then name_at (b ∷ bytes)
    else (if b == 34 then string_at bytes
    else (if b == 64 then alias_at bytes
    else (if b == 45 then mark_at (b ∷ bytes)
    else sign_at b bytes))))

abbrev pub behind_token : (List ℕ → List Lexeme) → Option (Lexeme × List ℕ) → List Lexeme
behind_token again None = stray ∷ []
behind_token again (Some (t, rest)) = t ∷ again rest

abbrev pub behind_gap : (List ℕ → List Lexeme) → Option (List ℕ) → List Lexeme
behind_gap again None = stray ∷ []
behind_gap again (Some []) = []
behind_gap again (Some (b ∷ bytes)) = behind_token again (solid_at (b ∷ bytes))

unfoldable pub lex_within : ℕ → List ℕ → List Lexeme
lex_within zero bytes = stray ∷ []
lex_within (suc n) bytes = behind_gap (lex_within n) (gap_from 0 bytes)

-- all tokens; `stray` comes last if none can be read there
unfoldable pub lex : List ℕ → List Lexeme
lex bytes = lex_within (suc (length bytes)) bytes

abbrev pub first : List Lexeme → Option (Option Lexeme × List Lexeme)
first [] = Some (None, [])
first (stray ∷ rest) = None
first (t ∷ rest) = Some (Some t, rest)

-- `stray` is no token
abbrev pub IsToken : Lexeme → Type 0
IsToken stray = ⊥
IsToken t = Unit {0}
