-- What the functions that read parts of texts compute: a mirror of them for proofs, whose laws are in proofs/Parts.
use Rattle.std.specs.Prelude.{ℕ, List, ◌∷◌, Option, Some, None, Ok, Err, if◌then◌else◌}
use Rattle.std.specs.Str.{bytes_eq}
use Rattle.std.specs.Borrow.{Bor}
use Rattle.pg_text.specs.declared.tokens.TokenFault.{TokenFault}
use Rattle.pg_text.specs.Lexemes.{Lexeme, number, word, semicolon, comma, quoted, end}
use Rattle.pg_text.specs.Mirrors.Steps.{◌>>=◌, Read, Step, item, stop, items_at, unexpected}
use Rattle.pg_text.specs.Mirrors.Scan.{token_at}

abbrev pub misplaced_in : List ℕ → Read (Lexeme × List ℕ) → TokenFault
misplaced_in bytes (Ok x) = unexpected bytes
misplaced_in bytes (Err fault) = fault

-- why the next token is refused, where another one must come
unfoldable pub misplaced : List ℕ → TokenFault
misplaced bytes = misplaced_in bytes (token_at bytes)

abbrev pub number_in : List ℕ → Lexeme × List ℕ → Read (ℕ × List ℕ)
number_in bytes (number n, rest) = Ok (n, rest)
number_in bytes (_, rest) = Err (unexpected bytes)

unfoldable pub natural_at : List ℕ → Read (ℕ × List ℕ)
natural_at bytes = token_at bytes >>= number_in bytes

abbrev pub word_in : List ℕ → Lexeme × List ℕ → Read (List ℕ × List ℕ)
word_in bytes (word w, rest) = Ok (w, rest)
word_in bytes (_, rest) = Err (unexpected bytes)

unfoldable pub name_at : List ℕ → Read (List ℕ × List ℕ)
name_at bytes = token_at bytes >>= word_in bytes

abbrev pub string_in : List ℕ → Lexeme × List ℕ → Read (List ℕ × List ℕ)
string_in bytes (quoted s, rest) = Ok (s, rest)
string_in bytes (_, rest) = Err (unexpected bytes)

unfoldable pub string_at : List ℕ → Read (List ℕ × List ℕ)
string_at bytes = token_at bytes >>= string_in bytes

abbrev pub semicolon_in : List ℕ → Lexeme × List ℕ → Read (List ℕ)
semicolon_in bytes (semicolon, rest) = Ok rest
semicolon_in bytes (_, rest) = Err (unexpected bytes)

unfoldable pub semicolon_at : List ℕ → Read (List ℕ)
semicolon_at bytes = token_at bytes >>= semicolon_in bytes

abbrev pub end_in : List ℕ → Lexeme × List ℕ → Read (Unit {0})
end_in bytes (end, rest) = Ok tt
end_in bytes (_, rest) = Err (unexpected bytes)

unfoldable pub end_at : List ℕ → Read (Unit {0})
end_at bytes = token_at bytes >>= end_in bytes

abbrev pub clause_in : List ℕ → List ℕ → Lexeme × List ℕ → Read (Option ℕ × List ℕ)
clause_in name bytes (word w, rest) =
    if bytes_eq w name then (natural_at rest >>= λ n. semicolon_at n.1 >>= λ after. Ok (Some n.0, after))
    else Ok (None, bytes)
clause_in name bytes (_, rest) = Ok (None, bytes)

-- the number between the word and a semicolon; nothing is taken if the word isn't there
unfoldable pub clause_at : List ℕ → List ℕ → Read (Option ℕ × List ℕ)
clause_at name bytes = token_at bytes >>= clause_in name bytes

abbrev pub further_in : List ℕ → Lexeme × List ℕ → Read (Step ℕ (Unit {0}) × List ℕ)
further_in bytes (comma, rest) = natural_at rest >>= λ n. Ok (item n.0, n.1)
further_in bytes (_, rest) = Ok (stop tt, bytes)

-- a comma and a number; nothing is taken if there is no comma
unfoldable pub further_at : List ℕ → Read (Step ℕ (Unit {0}) × List ℕ)
further_at bytes = token_at bytes >>= further_in bytes

abbrev pub further_seen : List ℕ → Option (ℕ × Bor (List ℕ)) → Step ℕ (Unit {0}) × List ℕ
further_seen bytes (Some x) = (item x.0, x.1.now)
further_seen bytes None = (stop tt, bytes)

-- numbers separated by commas
unfoldable pub numbers_at : List ℕ → Read (List ℕ × List ℕ)
numbers_at bytes = do
  first ← natural_at bytes
  others ← items_at further_at first.1
  Ok (first.0 ∷ others.0, others.2)
