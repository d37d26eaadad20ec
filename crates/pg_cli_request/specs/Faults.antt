-- The lines and the exit statuses of faults.
use Rattle.std.specs.Prelude.{ℕ, List, ◌++◌, Option, Result, Ok, Err, codes}
use Rattle.std.specs.Io.KnownBytes.{Appends}
use Rattle.pg_cli_words.specs.declared.outcome.Outcome.{Outcome}
use Rattle.pg_cli_words.specs.declared.outcome.Outcome.TheVariants as outcomes
use Rattle.pg_cli_command.specs.Faults.{status_of}
use Rattle.pg_cli_command.specs.FaultTexts.{fault_line}
use Rattle.pg_cli_request.specs.declared.fault.Fault.{Fault}
use Rattle.pg_cli_request.specs.declared.fault.Fault.TheVariants.{Open, Read, Controlled, NoProposition, Cli}

-- 3 if the fault is `Undecided`, and otherwise 1
abbrev pub fault_status : Fault → ℕ
fault_status (Cli fault) = status_of fault
fault_status fault = 1

-- 0 if there is an answer, and otherwise the status of the fault
abbrev pub end_status : Result (Unit {0}) Fault → ℕ
end_status (Ok done) = 0
end_status (Err fault) = fault_status fault

-- 0 if what was asked for was printed, 2 for words that aren't a command line, and 1 for what couldn't be printed
abbrev pub outcome_status : Outcome → ℕ
outcome_status outcomes.Asked = 0
outcome_status outcomes.Refused = 2
outcome_status outcomes.Unwritten = 1
outcome_status outcomes.OutOfMemory = 1

-- the fault's line is appended to the old output; nothing is said about a file that can't be opened, because the system gives the reason
abbrev pub IsTold : Fault → Option (List ℕ) → Option (List ℕ) → Type 0
IsTold (Open name why) old new = Unit {0}
IsTold (Read name) old new = Appends old new (codes "parsolve: cannot read " ++ (name.now ++ codes "\n"))
IsTold Controlled old new = Appends old new (codes "parsolve: --outs is given, and so is a header controllable-AP\n")
IsTold (NoProposition name) old new = Appends old new (codes "parsolve: no proposition is named " ++ (name.now ++ codes "\n"))
IsTold (Cli fault) old new = Appends old new (fault_line fault)
