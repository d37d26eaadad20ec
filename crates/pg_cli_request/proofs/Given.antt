-- What is known of answers that were made and written, and of texts that were named.
use Rattle.std.proofs.Common.{◌≡◌, ℕ, Bool, List, Option, Some, Result, Ok, Err, IfOk, OnOk}
use Rattle.std.specs.Io.KnownBytes.{Appends}
use Rattle.pg_cli_words.specs.declared.command.Command.{Command}
use Rattle.pg_cli_words.specs.declared.command.Command.TheVariants.{Verify}
use Rattle.pg_cli_request.specs.Inputs.{Input, Whole, IsNamed}

-- what was made is what was written
pub made_and_written : {E : Type 0} (P : List ℕ → Type 0) (old new : Option (List ℕ)) (made : List ℕ) (result : Result (Unit {0}) E) → P made
    → OnOk result (Appends old new made) → OnOk result ((answer : List ℕ) × P answer × Appends old new answer)
made_and_written P old new made (Ok done) is written = (made, is, written)
made_and_written P old new made (Err fault) is written = tt

-- the texts of `verify` are parted, and outputs named
pub parted_and_named : {T E : Type 0} (shown : T → Input) (outs : Option (List ℕ)) (command : Command) (given : Input) (names text : List ℕ)
    (workers : ℕ) (by_place environment : Bool) (result : Result T E) → outs ≡ Some names → command ≡ Verify workers by_place environment → given ≡ Whole text
    → IfOk result (λ input. (workers : ℕ) → IsNamed (Some names) (Verify workers by_place environment) (Whole text) (shown input))
    → IfOk result (λ input. IsNamed outs command given (shown input))
parted_and_named shown outs command given names text workers by_place environment (Ok input) a b c named = rw (a, b, c) (named workers)
parted_and_named shown outs command given names text workers by_place environment (Err fault) a b c named = tt
