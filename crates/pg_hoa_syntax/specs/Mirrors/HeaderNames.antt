-- Whether a header is written, token by token, and a header that is written.
use Rattle.std.specs.Prelude.{ℕ, ◌+◌, Bool, true, false, List, [], ◌∷◌, ◌++◌, Option, Some, None, nat_lt, unwrap_or, if◌then◌else◌}
use Rattle.std.specs.Str.{bytes_eq}
use Rattle.std.specs.List.{flat_map}
use Rattle.pg_hoa_syntax.specs.Lexemes.{Lexeme, header, body, end}
use Rattle.pg_hoa_syntax.specs.Syntax.{Written, header_lexemes, state_lexemes}

-- whether a header of this name is written, if the token, or the end of the text, decides that
abbrev pub decided : List ℕ → Option Lexeme → Option Bool
decided name None = Some false
decided name (Some body) = Some false
decided name (Some (header w)) = if bytes_eq w name then Some true else None
decided name (Some t) = None

-- whether a header of this name is written before `--BODY--`
unfoldable pub named_from : List ℕ → List Lexeme → Bool
named_from name [] = false
named_from name (t ∷ rest) = unwrap_or (decided name (Some t)) (named_from name rest)

-- the tokens after `HOA: v1`
abbrev pub behind_version : Written → List Lexeme
behind_version w = flat_map header_lexemes w.headers ++ (body ∷ (flat_map state_lexemes w.lines ++ (end ∷ [])))

-- a blank and a number below 16 in decimal digits
abbrev pub control_bytes : ℕ → List ℕ
control_bytes n = if nat_lt n 10 then 32 ∷ (48 + n) ∷ [] else 32 ∷ 49 ∷ (38 + n) ∷ []
