-- What the functions that read a solution's lines compute: a mirror of them for proofs, whose laws are in proofs/.
use Rattle.std.specs.Prelude.{ℕ, List, Option, Some, None, Ok, Err}
use Rattle.pg_text.specs.declared.solution_line.SolutionLine.{SolutionLine}
use Rattle.pg_text.specs.Lexemes.{Lexeme, number, semicolon, end}
use Rattle.pg_text.specs.Mirrors.Steps.{◌>>=◌, Read, Step, item, stop, unexpected}
use Rattle.pg_text.specs.Mirrors.Scan.{token_at}
use Rattle.pg_text.specs.Mirrors.Parts.{semicolon_at}
use Rattle.pg_text.specs.Mirrors.GameScan.{owner_at}

abbrev pub strategy_in : List ℕ → Lexeme × List ℕ → Read (Option ℕ × List ℕ)
strategy_in bytes (number n, rest) = semicolon_at rest >>= λ after. Ok (Some n, after)
strategy_in bytes (semicolon, rest) = Ok (None, rest)
strategy_in bytes (_, rest) = Err (unexpected bytes)

-- perhaps a number, and a semicolon
unfoldable pub strategy_at : List ℕ → Read (Option ℕ × List ℕ)
strategy_at bytes = token_at bytes >>= strategy_in bytes

-- a line, after its identifier
unfoldable pub answer_at : ℕ → List ℕ → Read (SolutionLine × List ℕ)
answer_at identifier bytes = do
  winner ← owner_at bytes
  strategy ← strategy_at winner.1
  Ok (record { identifier = identifier; winner = winner.0; strategy = strategy.0 }, strategy.1)

abbrev pub answer_seen : Option SolutionLine → Step SolutionLine (Unit {0})
answer_seen (Some line) = item line
answer_seen None = stop tt

abbrev pub answer_in : List ℕ → Lexeme × List ℕ → Read (Step SolutionLine (Unit {0}) × List ℕ)
answer_in bytes (number n, rest) = answer_at n rest >>= λ l. Ok (item l.0, l.1)
answer_in bytes (end, rest) = Ok (stop tt, rest)
answer_in bytes (_, rest) = Err (unexpected bytes)

-- a line, or the end of the text
unfoldable pub next_answer_at : List ℕ → Read (Step SolutionLine (Unit {0}) × List ℕ)
next_answer_at bytes = token_at bytes >>= answer_in bytes
