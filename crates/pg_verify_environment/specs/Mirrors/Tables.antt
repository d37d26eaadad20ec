-- The table of a counterpart while it is being made.
use Rattle.std.specs.Prelude.{◌≡◌, ℕ, suc, ◌/◌, ◌%◌, ◌<◌, List, length, slice_index_or, Some}
use Rattle.pg_hoa_automaton.specs.declared.table.Stored.{Stored}
use Rattle.pg_hoa_automaton.specs.Mirrors.Tables.{numbered}
use Rattle.pg_hoa_automaton.specs.Automata.{Automaton, letters}
use Rattle.pg_verify_environment.specs.Counterparts.{step_on}

-- the given number of slots hold the numbers of the counterpart's steps, state by state and letter by letter
pub record AreFilled (a : Automaton) (count : ℕ) (slots : List ℕ) (steps : List Stored) (lists : List (List ℕ)) : Type 0 where
  pub long : length slots ≡ count
  pub each : (k : ℕ) → k < count
      → numbered steps lists (slice_index_or slots k 0) ≡ Some (step_on a (k / letters a) (k % letters a))
