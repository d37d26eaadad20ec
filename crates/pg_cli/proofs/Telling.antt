-- Which faults an answer is refused by, and what is told of them where it is written to memory.
use Rattle.std.proofs.Common.{◌≡◌, ◌≢◌, ℕ, List, [], ◌++◌, Option, Some, Result, Ok, Err, refl, ap, sym, subst, IfOk, IfErr}
use Rattle.std.specs.Prelude.{true, false}
use Rattle.pg_cli_words.specs.declared.command.Command.{Command}
use Rattle.pg_cli_words.specs.declared.command.Command.TheVariants.{Measure, Solve, SolveAny, Check, Replay, Automaton, Means, Game, Synth, SynthSmall, SynthCounter, Verify, VerifyFormula}
use Rattle.pg_cli_command.specs.Measuring.{MapKind}
use Rattle.pg_cli_command.specs.Answers.{Answers, PrintsBy, RefusesBy}
use Rattle.pg_cli_command.specs.declared.fault.CliFault.{CliFault}
use Rattle.pg_cli_command.specs.declared.fault.CliFault.TheVariants as cli
use Rattle.pg_cli_command.specs.InMemory.{memory_fault, in_memory}
use Rattle.pg_cli_command.proofs.Listening.{judge_listens}

no_listening : (Kind : MapKind) (command : Command) (input : List ℕ) → RefusesBy Kind command input cli.Listen → ⊥
no_listening Kind (Measure workers) input why = why.1
no_listening Kind (Solve workers) input why = why.1
no_listening Kind (SolveAny workers) input why = why.1
no_listening Kind Check input why = why.1
no_listening Kind Replay input why = why.1
no_listening Kind Automaton input why = why.1
no_listening Kind Means input why = why.1
no_listening Kind Game input why = why.1
no_listening Kind (Synth workers) input why = why.1
no_listening Kind (SynthSmall workers) input why = why.1
no_listening Kind (SynthCounter workers) input why = why.1
no_listening Kind (Verify workers by_place true) input why = why.1
no_listening Kind (Verify workers by_place false) input why = why.1
no_listening Kind (VerifyFormula environment) input why = judge_listens why.1.3 why.1.5

-- an answer isn't refused because nothing listens
pub never_listens : (Kind : MapKind) (command : Command) (input : List ℕ) (old new : Option (List ℕ)) (result : Result (Unit {0}) CliFault)
    → Answers Kind command input old new result → result ≢ Err cli.Listen
never_listens Kind command input old new result answers is = no_listening Kind command input (subst (Answers Kind command input old new) is answers)

refused : (Kind : MapKind) (command : Command) (input : List ℕ) (fault : CliFault) → RefusesBy Kind command input fault
    → RefusesBy Kind command input (memory_fault fault)
refused Kind command input cli.Write why = tt
refused Kind command input _ why = why

-- what refuses an answer refuses it in memory
pub refused_in_memory : {Output : Type 0} (Kind : MapKind) (command : Command) (input : List ℕ) (old new : Option (List ℕ)) (output : Output)
    (written : Result (Unit {0}) CliFault) → Answers Kind command input old new written
    → IfErr (in_memory written output) (RefusesBy Kind command input)
refused_in_memory Kind command input old new output (Ok done) answers = tt
refused_in_memory Kind command input old new output (Err fault) answers = refused Kind command input fault answers

-- what was written where nothing stood is what is printed
shown : (Kind : MapKind) (command : Command) (input output old new : List ℕ) → old ≡ [] → PrintsBy Kind command input output → new ≡ old ++ output
    → PrintsBy Kind command input new
shown Kind command input output old new empty prints appended = subst (PrintsBy Kind command input) (sym (rw empty at appended)) prints

pub shown_in_memory : {Output : Type 0} (items : Output → List ℕ) (Kind : MapKind) (command : Command) (input old : List ℕ) (output : Output)
    (written : Result (Unit {0}) CliFault) → old ≡ [] → Answers Kind command input (Some old) (Some (items output)) written
    → IfOk (in_memory written output) (λ o. PrintsBy Kind command input (items o))
shown_in_memory items Kind command input old output (Ok done) empty answers = shown Kind command input answers.0 old (items output) empty answers.1 answers.2
shown_in_memory items Kind command input old output (Err fault) empty answers = tt

never_write : (fault : CliFault) → memory_fault fault ≢ cli.Write
never_write cli.Write is = cc
never_write cli.OutOfMemory is = cc
never_write _ is = cc

abbrev fault_in : {Output : Type 0} → CliFault → Result Output CliFault → CliFault
fault_in other (Ok output) = other
fault_in other (Err fault) = fault

never_read : (fault : CliFault) → fault ≢ cli.Read → memory_fault fault ≢ cli.Read
never_read cli.Write other is = cc
never_read cli.Read other is = other is
never_read _ other is = cc

pub never_unread : {Output : Type 0} (output : Output) (written : Result (Unit {0}) CliFault) → written ≢ Err cli.Read
    → in_memory written output ≢ Err cli.Read
never_unread output (Ok done) other is = cc
never_unread output (Err fault) other is = never_read fault (λ e. other (rw e refl)) (ap (fault_in cli.Read) is)

-- nothing in memory is told as a failed write
pub never_unwritten : {Output : Type 0} (output : Output) (written : Result (Unit {0}) CliFault) → in_memory written output ≢ Err cli.Write
never_unwritten output (Ok done) is = cc
never_unwritten output (Err fault) is = never_write fault (ap (fault_in cli.Write) is)
