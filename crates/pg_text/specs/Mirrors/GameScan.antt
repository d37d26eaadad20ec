-- What the functions that read a game compute: a mirror of them for proofs, whose laws are in proofs/.
use Rattle.std.specs.Prelude.{ℕ, suc, zero, List, Option, Some, None, Ok, Err, codes, option_copied}
use Rattle.pg_arena.specs.declared.player.Player.{Player}
use Rattle.pg_arena.specs.declared.player.Player.TheVariants.{Even, Odd}
use Rattle.pg_arena.specs.Lines.{Line, counted}
use Rattle.pg_list_lemmas.specs.Rising.{rising}
use Rattle.pg_text.specs.declared.line.TextLine.{TextLine}
use Rattle.pg_text.specs.Lexemes.{Lexeme, number, semicolon, quoted, end}
use Rattle.pg_text.specs.Mirrors.Steps.{◌>>=◌, Read, Step, item, stop, items_at, unexpected}
use Rattle.pg_text.specs.Mirrors.Scan.{token_at}
use Rattle.pg_text.specs.Mirrors.Parts.{natural_at, semicolon_at, numbers_at, clause_at}

-- a line, apart from its place in memory
abbrev pub line_seen : List ℕ → TextLine → Line
line_seen successors l = record {
  identifier = l.identifier;
  priority = l.priority;
  owner = l.owner;
  successors = successors;
  name = option_copied l.name;
}

abbrev pub player_in : List ℕ → ℕ × List ℕ → Read (Player × List ℕ)
player_in bytes (zero, rest) = Ok (Even, rest)
player_in bytes (suc zero, rest) = Ok (Odd, rest)
player_in bytes (suc (suc n), rest) = Err (unexpected bytes)

unfoldable pub owner_at : List ℕ → Read (Player × List ℕ)
owner_at bytes = natural_at bytes >>= player_in bytes

abbrev pub ending_in : List ℕ → Lexeme × List ℕ → Read (Option (List ℕ) × List ℕ)
ending_in bytes (quoted s, rest) = semicolon_at rest >>= λ after. Ok (Some s, after)
ending_in bytes (semicolon, rest) = Ok (None, rest)
ending_in bytes (_, rest) = Err (unexpected bytes)

-- perhaps a name, and a semicolon
unfoldable pub ending_at : List ℕ → Read (Option (List ℕ) × List ℕ)
ending_at bytes = token_at bytes >>= ending_in bytes

-- a line after its identifier, by the reader of its successors
abbrev pub line_by : (List ℕ → Read (List ℕ × List ℕ)) → ℕ → List ℕ → Read (Line × List ℕ)
line_by list_at identifier bytes = do
  priority ← natural_at bytes
  owner ← owner_at priority.1
  successors ← list_at owner.1
  ending ← ending_at successors.1
  Ok (
    record {
      identifier = identifier;
      priority = priority.0;
      owner = owner.0;
      successors = successors.0;
      name = ending.0;
    },
    ending.1,
  )

unfoldable pub line_at : ℕ → List ℕ → Read (Line × List ℕ)
line_at identifier bytes = line_by numbers_at identifier bytes

abbrev pub item_seen : List ℕ → Option TextLine → Step Line (Unit {0})
item_seen successors (Some l) = item (line_seen successors l)
item_seen successors None = stop tt

abbrev pub item_in : List ℕ → Lexeme × List ℕ → Read (Step Line (Unit {0}) × List ℕ)
item_in bytes (number n, rest) = line_at n rest >>= λ l. Ok (item l.0, l.1)
item_in bytes (end, rest) = Ok (stop tt, rest)
item_in bytes (_, rest) = Err (unexpected bytes)

-- a line, or the end of the text
unfoldable pub item_at : List ℕ → Read (Step Line (Unit {0}) × List ℕ)
item_at bytes = token_at bytes >>= item_in bytes

-- ---- lines of which a repeated successor counts once

unfoldable pub successors_at : List ℕ → Read (List ℕ × List ℕ)
successors_at bytes = numbers_at bytes >>= λ x. Ok (rising x.0, x.1)

unfoldable pub counted_line_at : ℕ → List ℕ → Read (Line × List ℕ)
counted_line_at identifier bytes = line_by successors_at identifier bytes

abbrev pub counted_step : Step Line (Unit {0}) → Step Line (Unit {0})
counted_step (item line) = item (counted line)
counted_step (stop u) = stop u

unfoldable pub counted_item_at : List ℕ → Read (Step Line (Unit {0}) × List ℕ)
counted_item_at bytes = item_at bytes >>= λ x. Ok (counted_step x.0, x.1)

unfoldable pub body_at : List ℕ → Read (List ℕ)
body_at bytes = do
  header ← clause_at (codes "parity") bytes
  start ← clause_at (codes "start") header.1
  Ok start.1

unfoldable pub lines_at : List ℕ → Read (List Line)
lines_at bytes = do
  rest ← body_at bytes
  lines ← items_at item_at rest
  Ok lines.0
