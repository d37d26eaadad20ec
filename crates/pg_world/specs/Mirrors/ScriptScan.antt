-- Mirrors, for proofs, of the functions that read a script's lines.
use Rattle.std.specs.Prelude.{ℕ, ◌-◌, List, Option, Some, None, Ok, Err, codes, if◌then◌else◌}
use Rattle.std.specs.Str.{bytes_eq}
use Rattle.pg_text.specs.declared.tokens.TokenFault.{TokenFault}
use Rattle.pg_text.specs.declared.tokens.TokenFault.TheVariants as tokens
use Rattle.pg_text.specs.declared.reading.Refusal.{Refusal}
use Rattle.pg_text.specs.declared.reading.Refusal.TheVariants.{Memory, Token}
use Rattle.pg_text.specs.Mirrors.Steps.{◌>>=◌, Read, unexpected}
use Rattle.pg_text.specs.Mirrors.Parts.{natural_at, name_at, semicolon_at, end_at, numbers_at}
use Rattle.pg_world.specs.declared.script_line.ScriptLine.{ScriptLine}
use Rattle.pg_world.specs.declared.script_line.ScriptLine.TheVariants.{Lift, Deliver, Restart, Central}
use Rattle.pg_world.specs.declared.script_fault.ScriptFault.{ScriptFault}
use Rattle.pg_world.specs.declared.script_fault.ScriptFault.TheVariants.{OutOfMemory, Syntax, NumberTooLarge}

-- a number and a semicolon
unfoldable pub one_at : List ℕ → Read (ℕ × List ℕ)
one_at bytes = do
  n ← natural_at bytes
  after ← semicolon_at n.1
  Ok (n.0, after)

-- two numbers and a semicolon
unfoldable pub two_at : List ℕ → Read ((ℕ × ℕ) × List ℕ)
two_at bytes = do
  a ← natural_at bytes
  b ← one_at a.1
  Ok ((a.0, b.0), b.1)

-- the rest of a line after its word
unfoldable pub line_at : List ℕ → List ℕ → List ℕ → Read (ScriptLine × List ℕ)
line_at front name rest =
    if bytes_eq name (codes "lift") then (two_at rest >>= λ x. Ok (Lift x.0.0 x.0.1, x.1))
    else (if bytes_eq name (codes "deliver") then (two_at rest >>= λ x. Ok (Deliver x.0.0 x.0.1, x.1))
    else (if bytes_eq name (codes "restart") then (one_at rest >>= λ x. Ok (Restart x.0, x.1))
    else (if bytes_eq name (codes "central") then (one_at rest >>= λ x. Ok (Central x.0, x.1))
    else Err (unexpected front))))

abbrev pub end_or : TokenFault → List ℕ → Read (Unit {0}) → Read (Option ScriptLine × List ℕ)
end_or fault bytes (Ok _) = Ok (None, bytes)
end_or fault bytes (Err _) = Err fault

abbrev pub next_in : List ℕ → Read (List ℕ × List ℕ) → Read (Option ScriptLine × List ℕ)
next_in bytes (Ok x) = line_at bytes x.0 x.1 >>= λ l. Ok (Some l.0, l.1)
next_in bytes (Err fault) = end_or fault bytes (end_at bytes)

-- a line, or the end of the text
unfoldable pub next_line_at : List ℕ → Read (Option ScriptLine × List ℕ)
next_line_at bytes = next_in bytes (name_at bytes)

abbrev pub cut_in : List ℕ → Read (List ℕ × List ℕ) → Read (Option (List ℕ) × List ℕ)
cut_in bytes (Ok x) =
    if bytes_eq x.0 (codes "cut")
    then (numbers_at x.1 >>= λ n. semicolon_at n.1 >>= λ after. Ok (Some n.0, after))
    else Ok (None, bytes)
cut_in bytes (Err _) = Ok (None, bytes)

-- the numbers of a cut; nothing is read if the word isn't there
unfoldable pub cut_at : List ℕ → Read (Option (List ℕ) × List ℕ)
cut_at bytes = cut_in bytes (name_at bytes)

-- the fault in a text of this many bytes
abbrev pub fault_in : ℕ → TokenFault → ScriptFault
fault_in len (tokens.Syntax left) = Syntax (len - left)
fault_in len (tokens.NumberTooLarge left) = NumberTooLarge (len - left)

abbrev pub refusal_in : ℕ → Refusal → ScriptFault
refusal_in len Memory = OutOfMemory
refusal_in len (Token fault) = fault_in len fault
