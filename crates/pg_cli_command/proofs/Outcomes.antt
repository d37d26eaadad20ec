-- What is printed of what a command worked out, and what is known of an input that was read.
use Rattle.pg_cli_command.proofs.Common.{◌≡◌, ℕ, ◌≤◌, List, length, Option, Some, None, Result, Ok, Err, sym, subst, IfOk, IfErr, IfSome, OnOk}
use Rattle.pg_cli_command.proofs.Common.{MatchResult, Appends, MapKind, meaning_of, RefusesBy, Answers, ShowsWhat, Fails, MOST_BYTES, Command}
use Rattle.pg_cli_command.proofs.Common.{CliFault, ◌⊎◌, inl, inr, refl, ap, []}
use Rattle.pg_cli_command.specs.InMemory.{memory_fault, in_memory}
use Rattle.pg_cli_command.specs.declared.fault.CliFault.TheVariants as cli

-- the text of an answer was written
abbrev pub IsWritten : {A : Type 0} → (A → List ℕ → Type 0) → Option (List ℕ) → Option (List ℕ) → Result A CliFault → Type 0
IsWritten shows old new worked_out =
    MatchResult worked_out (λ answer. (output : List ℕ) → shows answer output → Appends old new output) (λ _. ⊥)

-- what was worked out, or else the writer, is at fault
abbrev pub IsAtFault : {A : Type 0} → Result A CliFault → CliFault → Type 0
IsAtFault worked_out fault = MatchResult worked_out (λ _. fault ≡ cli.Write) (λ why. fault ≡ why)

pub printed : {A : Type 0} (shows : A → List ℕ → Type 0) (Prints : List ℕ → Type 0) (old new : Option (List ℕ)) (worked_out : Result A CliFault)
    (result : Result (Unit {0}) CliFault) → IfOk worked_out (ShowsWhat Prints shows) → OnOk result (IsWritten shows old new worked_out)
    → OnOk result ((output : List ℕ) × Prints output × Appends old new output)
printed shows Prints old new worked_out (Err fault) told written = tt
printed shows Prints old new (Ok answer) (Ok done) told written = (told.0, told.2, written told.0 told.1)
printed shows Prints old new (Err why) (Ok done) told written = absurd written

-- and what was written where nothing stood is what is printed
pub shown : {A : Type 0} (shows : A → List ℕ → Type 0) (Prints : List ℕ → Type 0) (old new : List ℕ) (worked_out : Result A CliFault) → old ≡ []
    → IfOk worked_out (ShowsWhat Prints shows) → IsWritten shows (Some old) (Some new) worked_out → Prints new
shown shows Prints old new (Ok answer) empty told written = subst Prints (sym (rw empty at written told.0 told.1)) told.2
shown shows Prints old new (Err why) empty told written = absurd written

-- so it is of what was written to memory
pub shown_in_memory : {A Output : Type 0} (shows : A → List ℕ → Type 0) (Prints : List ℕ → Type 0) (items : Output → List ℕ) (old : List ℕ)
    (output : Output) (worked_out : Result A CliFault) (written : Result (Unit {0}) CliFault) → old ≡ [] → IfOk worked_out (ShowsWhat Prints shows)
    → OnOk written (IsWritten shows (Some old) (Some (items output)) worked_out) → IfOk (in_memory written output) (λ o. Prints (items o))
shown_in_memory shows Prints items old output worked_out (Ok done) empty told is = shown shows Prints old (items output) worked_out empty told is
shown_in_memory shows Prints items old output worked_out (Err fault) empty told is = tt

-- what fails at its work is refused
refused : (Kind : MapKind) (command : Command) (input : List ℕ) (fault : CliFault) → length input ≤ MOST_BYTES
    → Fails (meaning_of Kind command input).refuses fault → RefusesBy Kind command input fault
refused Kind command input cli.OutOfMemory limit why = tt
refused Kind command input cli.Read limit why = tt
refused Kind command input cli.Write limit why = absurd why
refused Kind command input cli.InputTooLong limit why = absurd why
refused Kind command input _ limit why = (limit, why)

-- what is written of an answer, and told where there is none, is what the command comes to
comes_to : {A : Type 0} (shows : A → List ℕ → Type 0) (Kind : MapKind) (command : Command) (input : List ℕ) (old new : Option (List ℕ))
    (worked_out : Result A CliFault) (result : Result (Unit {0}) CliFault) → length input ≤ MOST_BYTES
    → IfOk worked_out (ShowsWhat (meaning_of Kind command input).prints shows) → IfErr worked_out (Fails (meaning_of Kind command input).refuses)
    → OnOk result (IsWritten shows old new worked_out) → IfErr result (IsAtFault worked_out) → Answers Kind command input old new result
comes_to shows Kind command input old new (Ok answer) (Ok done) limit told fails written fault =
    (told.0, record { limit = limit; answer = told.2 }, written told.0 told.1)
comes_to shows Kind command input old new (Ok answer) (Err fault) limit told fails written is =
    subst (RefusesBy Kind command input) (sym is) (told.0, record { limit = limit; answer = told.2 })
comes_to shows Kind command input old new (Err why) (Ok done) limit told fails written fault = absurd written
comes_to shows Kind command input old new (Err why) (Err fault) limit told fails written is =
    subst (RefusesBy Kind command input) (sym is) (refused Kind command input why limit fails)

-- what fails at its work does so for want of memory, or is refused
fails_or : (Refuses : CliFault → Type 0) (fault : CliFault) → Fails Refuses fault → (fault ≡ cli.OutOfMemory) ⊎ Refuses fault
fails_or Refuses cli.OutOfMemory why = inl refl
fails_or Refuses cli.Read why = absurd why
fails_or Refuses cli.Write why = absurd why
fails_or Refuses cli.InputTooLong why = absurd why
fails_or Refuses _ why = inr why

-- and else the writer is at fault
pub at_fault : {A : Type 0} (Refuses : CliFault → Type 0) (worked_out : Result A CliFault) (result : Result (Unit {0}) CliFault)
    → IfErr worked_out (Fails Refuses) → IfErr result (IsAtFault worked_out)
    → IfErr result (λ fault. (fault ≡ cli.Write) ⊎ ((fault ≡ cli.OutOfMemory) ⊎ Refuses fault))
at_fault Refuses worked_out (Ok done) fails is = tt
at_fault Refuses (Ok answer) (Err fault) fails is = inl is
at_fault Refuses (Err why) (Err fault) fails is =
    inr (subst (λ (it : CliFault). (it ≡ cli.OutOfMemory) ⊎ Refuses it) (sym is) (fails_or Refuses why fails))

fails_in_memory : (Refuses : CliFault → Type 0) (fault : CliFault) → Fails Refuses fault
    → (memory_fault fault ≡ cli.OutOfMemory) ⊎ Refuses (memory_fault fault)
fails_in_memory Refuses cli.OutOfMemory why = inl refl
fails_in_memory Refuses cli.Read why = absurd why
fails_in_memory Refuses cli.Write why = absurd why
fails_in_memory Refuses cli.InputTooLong why = absurd why
fails_in_memory Refuses _ why = inr why

-- but in memory the writer fails only where memory runs out
pub refused_in_memory : {A Output : Type 0} (Refuses : CliFault → Type 0) (output : Output) (worked_out : Result A CliFault)
    (written : Result (Unit {0}) CliFault) → IfErr worked_out (Fails Refuses) → IfErr written (IsAtFault worked_out)
    → IfErr (in_memory written output) (λ fault. (fault ≡ cli.OutOfMemory) ⊎ Refuses fault)
refused_in_memory Refuses output worked_out (Ok done) fails is = tt
refused_in_memory Refuses output (Ok answer) (Err fault) fails is = inl (ap memory_fault is)
refused_in_memory Refuses output (Err why) (Err fault) fails is =
    subst (λ (it : CliFault). (memory_fault it ≡ cli.OutOfMemory) ⊎ Refuses (memory_fault it)) (sym is) (fails_in_memory Refuses why fails)

-- and so it is of the command that is asked for
pub answered : {A : Type 0} (shows : A → List ℕ → Type 0) (Kind : MapKind) (asked command : Command) (input : List ℕ) (old new : Option (List ℕ))
    (worked_out : Result A CliFault) (result : Result (Unit {0}) CliFault) → length input ≤ MOST_BYTES → asked ≡ command
    → IfOk worked_out (ShowsWhat (meaning_of Kind command input).prints shows) → IfErr worked_out (Fails (meaning_of Kind command input).refuses)
    → OnOk result (IsWritten shows old new worked_out) → IfErr result (IsAtFault worked_out) → Answers Kind asked input old new result
answered shows Kind asked command input old new worked_out result limit same told fails written fault =
    subst (λ (it : Command). Answers Kind it input old new result) (sym same)
    (comes_to shows Kind command input old new worked_out result limit told fails written fault)

-- what is so of the text that was read is so of the known bytes
pub answered_known : (Kind : MapKind) (command : Command) (known old new : Option (List ℕ)) (text : List ℕ) (result : Result (Unit {0}) CliFault)
    → IfSome known (λ input. text ≡ input) → Answers Kind command text old new result
    → IfSome known (λ input. Answers Kind command input old new result)
answered_known Kind command None old new text result same answer = tt
answered_known Kind command (Some input) old new text result same answer =
    subst (λ (bytes : List ℕ). Answers Kind command bytes old new result) same answer
