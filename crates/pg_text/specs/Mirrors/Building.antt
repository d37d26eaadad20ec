-- What the lines of a text become: a helper of proofs.
use Rattle.std.specs.Prelude.{◌≡◌, ℕ, List, [], map, Result, Ok, Err}
use Rattle.pg_arena.specs.declared.fault.ArenaFault.TheVariants as arena
use Rattle.pg_arena.specs.Lines.{Line, counted, Accepts}
use Rattle.pg_text.specs.declared.fault.TextFault.{TextFault}
use Rattle.pg_text.specs.declared.fault.TextFault.TheVariants.{OutOfMemory, Syntax, NumberTooLarge, Arena}
use Rattle.pg_text.specs.GameText.{IsText, HasBadLine, Refuses}

-- The builder has the lines of the text. Otherwise memory ran out, or the bytes are no text, or the text has a line
-- that may not follow those before it, so that no lines of the text keep the limits.
abbrev pub BuildsLines : List ℕ → Result (List Line) TextFault → Type 0
BuildsLines bytes (Ok built) = (lines : List Line) × IsText bytes lines × (built ≡ map counted lines) × Accepts [] lines
BuildsLines bytes (Err OutOfMemory) = Unit {0}
BuildsLines bytes (Err (Syntax offset)) = Refuses bytes (Syntax offset)
BuildsLines bytes (Err (NumberTooLarge offset)) = Refuses bytes (NumberTooLarge offset)
BuildsLines bytes (Err (Arena arena.OutOfMemory)) = ⊥
BuildsLines bytes (Err (Arena fault)) =
    HasBadLine bytes fault × ((lines : List Line) → IsText bytes lines → Accepts [] lines → ⊥)
BuildsLines bytes (Err _) = ⊥
