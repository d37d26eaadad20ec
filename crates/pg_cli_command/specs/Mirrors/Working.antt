-- The answer that a command works out from an input before anything is written.
use Rattle.std.specs.Prelude.{ℕ, List}
use Rattle.pg_cli_command.specs.declared.fault.CliFault.{CliFault}
use Rattle.pg_cli_command.specs.declared.fault.CliFault.TheVariants.{OutOfMemory, Read, Write, InputTooLong}

-- the text of the answer is what the command prints
abbrev pub ShowsWhat : {A : Type 0} → (List ℕ → Type 0) → (A → List ℕ → Type 0) → A → Type 0
ShowsWhat Prints shows answer = (output : List ℕ) × shows answer output × Prints output

-- Memory ran out, or the command refuses the input for its contents. The work itself reads nothing and writes nothing.
abbrev pub Fails : (CliFault → Type 0) → CliFault → Type 0
Fails Refuses OutOfMemory = Unit {0}
Fails Refuses Read = ⊥
Fails Refuses Write = ⊥
Fails Refuses InputTooLong = ⊥
Fails Refuses fault = Refuses fault
