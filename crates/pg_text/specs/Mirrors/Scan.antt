-- What the functions that read a token compute: a mirror of them for proofs, whose laws are in proofs/Lexing.
use Rattle.std.specs.Prelude.{ℕ, ◌+◌, ◌^◌, ◌==◌, List, [], ◌∷◌, length, drop, Option, Some, None, Ok, Err, nat_lt, if◌then◌else◌}
use Rattle.std.specs.List.{prefix_len, take_while}
use Rattle.pg_text.specs.Lexemes.{Lexeme, number, word, semicolon, comma, quoted, end, is_letter, is_plain, after_space, token_fault}
use Rattle.pg_list_lemmas.specs.Bytes.{is_digit, value_of}
use Rattle.pg_text.specs.declared.tokens.TokenFault.{TokenFault}
use Rattle.pg_text.specs.Mirrors.Steps.{Read}

unfoldable pub number_at : List ℕ → Option (Lexeme × List ℕ)
number_at bytes =
    if nat_lt (value_of (take_while is_digit bytes)) (2 ^ 32)
    then Some (number (value_of (take_while is_digit bytes)), drop (prefix_len is_digit bytes) bytes)
    else None

unfoldable pub word_at : List ℕ → Option (Lexeme × List ℕ)
word_at bytes = Some (word (take_while is_letter bytes), drop (prefix_len is_letter bytes) bytes)

-- a string, after its first quote
unfoldable pub quoted_at : List ℕ → Option (Lexeme × List ℕ)
quoted_at bytes =
    if nat_lt (prefix_len is_plain bytes) (length bytes)
    then Some (quoted (take_while is_plain bytes), drop (prefix_len is_plain bytes + 1) bytes)
    else None

unfoldable pub solid_at : List ℕ → Option (Lexeme × List ℕ)
solid_at [] = Some (end, [])
solid_at (b ∷ bytes) =
    if is_digit b then number_at (b ∷ bytes)
    else (if is_letter b then word_at (b ∷ bytes)
    else (if b == 59 then Some (semicolon, bytes)
    else (if b == 44 then Some (comma, bytes)
    else (if b == 34 then quoted_at bytes
    else None))))

unfoldable pub lexeme_at : List ℕ → Option (Lexeme × List ℕ)
lexeme_at bytes = solid_at (after_space bytes)

abbrev pub or_fault : Option (Lexeme × List ℕ) → TokenFault → Read (Lexeme × List ℕ)
or_fault (Some x) fault = Ok x
or_fault None fault = Err fault

unfoldable pub token_at : List ℕ → Read (Lexeme × List ℕ)
token_at bytes = or_fault (lexeme_at bytes) (token_fault bytes)
