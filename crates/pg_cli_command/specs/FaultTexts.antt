-- The line that is printed for a fault.
use Rattle.std.specs.Prelude.{ℕ, List, ◌++◌, codes, decimal}
use Rattle.pg_text.specs.FaultTexts as text
use Rattle.pg_world.specs.ScriptFaultTexts as script
use Rattle.pg_world.specs.declared.fault.WorldFault.{WorldFault}
use Rattle.pg_world.specs.declared.fault.WorldFault.TheVariants as world
use Rattle.pg_worker.specs.declared.fault.WorkerFault.{WorkerFault}
use Rattle.pg_worker.specs.declared.fault.WorkerFault.TheVariants as worker
use Rattle.pg_wire.specs.declared.fault.WireFault.TheVariants as wire
use Rattle.pg_hoa.specs.FaultTexts as hoa
use Rattle.pg_synth.specs.FaultTexts as synth
use Rattle.pg_aiger.specs.FaultTexts as aiger
use Rattle.pg_aiger_reader.specs.FaultTexts as reader
use Rattle.pg_aiger_netlist.specs.declared.fault.NetlistFault.{NetlistFault}
use Rattle.pg_aiger_netlist.specs.declared.fault.NetlistFault.TheVariants as netlist
use Rattle.pg_verify.specs.declared.fault.VerifyFault.{VerifyFault}
use Rattle.pg_verify.specs.declared.fault.VerifyFault.TheVariants as verify
use Rattle.pg_ltl.specs.FaultTexts as formula
use Rattle.pg_means.specs.declared.fault.MeansFault.{MeansFault}
use Rattle.pg_means.specs.declared.fault.MeansFault.TheVariants as means
use Rattle.pg_satisfies.specs.declared.fault.SatisfiesFault.{SatisfiesFault}
use Rattle.pg_satisfies.specs.declared.fault.SatisfiesFault.TheVariants as satisfies
use Rattle.pg_satisfies_texts.specs.FaultTexts.{name_fault_text}
use Rattle.pg_cli_command.specs.declared.solver.Untranslated.{Untranslated}
use Rattle.pg_cli_command.specs.declared.solver.Untranslated.TheVariants as untranslated
use Rattle.pg_cli_command.specs.declared.fault.CliFault.{CliFault}
use Rattle.pg_cli_command.specs.declared.fault.CliFault.TheVariants.{OutOfMemory, Read, Write, InputTooLong, NoSeparator, Text, Script, World}
use Rattle.pg_cli_command.specs.declared.fault.CliFault.TheVariants.{CutMismatch, Undecided, Hoa, Synth, Aiger, Listen, Connect, Worker}
use Rattle.pg_cli_command.specs.declared.fault.CliFault.TheVariants.{Circuit, Tie, Netlist, Verify, Hearing}
use Rattle.pg_cli_command.specs.declared.fault.CliFault.TheVariants as cli
use Rattle.pg_cli_command.specs.declared.fault.CliFault.TheVariants.{TooManyPropositions, Unshown, NoCounter}

-- the text of a fault of the event at this place
abbrev pub at_event : ℕ → List ℕ → List ℕ
at_event place why = codes "event " ++ (decimal place ++ (codes ": " ++ why))

-- why an event is refused; the texts for running out of memory and for a cut that doesn't fit don't name the event
abbrev pub event_text : ℕ → WorldFault → List ℕ
event_text place world.OutOfMemory = codes "out of memory"
event_text place (world.NoSuchReplica n) = at_event place (codes "no replica " ++ decimal n)
event_text place (world.NotMine worker id) =
    at_event place (codes "vertex " ++ (decimal id ++ (codes " is not of worker " ++ decimal worker)))
event_text place (world.NoSuchUpdate n) = at_event place (codes "update " ++ (decimal n ++ codes " was never made"))
event_text place world.CutMismatch = codes "the cut does not fit the game"

-- the fault that ended a worker's serving, by its number unless memory ran out
abbrev pub worker_text : WorkerFault → List ℕ
worker_text worker.OutOfMemory = codes "out of memory"
worker_text worker.NotMine = codes "worker fault 2"
worker_text worker.BadUpdate = codes "worker fault 3"
worker_text worker.Order = codes "worker fault 4"
worker_text (worker.Wire wire.OutOfMemory) = codes "out of memory"
worker_text (worker.Wire fault) = codes "worker fault 5"

-- what is wrong with the lines of a circuit
abbrev pub netlist_text : NetlistFault → List ℕ
netlist_text netlist.OutOfMemory = codes "out of memory"
netlist_text (netlist.NotAVariable literal) = codes "literal " ++ (decimal literal ++ codes " of the circuit defines no variable")
netlist_text (netlist.DefinedTwice variable) = codes "variable " ++ (decimal variable ++ codes " of the circuit is defined twice")
netlist_text (netlist.Undefined variable) = codes "variable " ++ (decimal variable ++ codes " of the circuit is used and not defined")
netlist_text (netlist.Cycle variable) = codes "the gate of variable " ++ (decimal variable ++ codes " stands in a cycle")

abbrev pub verify_text : VerifyFault → List ℕ
verify_text verify.OutOfMemory = codes "out of memory"
verify_text verify.TooLarge = codes "circuit and automaton too large together"

abbrev pub means_text : MeansFault → List ℕ
means_text means.OutOfMemory = codes "out of memory"
means_text means.TooLarge = codes "automaton and formula too large together"
means_text means.Undecided = codes "undecided"

abbrev pub satisfies_text : SatisfiesFault → List ℕ
satisfies_text satisfies.OutOfMemory = codes "out of memory"
satisfies_text satisfies.TooLarge = codes "circuit and formula too large together"
satisfies_text satisfies.Undecided = codes "undecided"

-- why no automaton was found for a formula
abbrev pub untranslated_text : Untranslated → List ℕ
untranslated_text untranslated.OutOfMemory = codes "out of memory"
untranslated_text untranslated.TooManyStates = codes "automaton of the formula has too many states"
untranslated_text untranslated.TooManySteps = codes "automaton of the formula takes too many steps"

abbrev pub fault_text : CliFault → List ℕ
fault_text OutOfMemory = codes "out of memory"
fault_text Read = codes "cannot read the input"
fault_text Write = codes "cannot write the output"
fault_text InputTooLong = codes "input is longer than 268435456 bytes"
fault_text NoSeparator = codes "no line -- between the two texts"
fault_text (Text fault) = text.fault_text fault
fault_text (Script fault) = script.fault_text fault
fault_text (World place fault) = event_text place fault
fault_text CutMismatch = codes "the cut does not fit the game"
fault_text (Undecided id) = codes "undecided at " ++ decimal id
fault_text (Hoa fault) = hoa.fault_text fault
fault_text (Synth fault) = synth.fault_text fault
fault_text (Aiger fault) = aiger.fault_text fault
fault_text (Circuit fault) = reader.reader_fault_text fault
fault_text (Tie fault) = reader.tie_fault_text fault
fault_text (Netlist fault) = netlist_text fault
fault_text (Verify fault) = verify_text fault
fault_text (cli.Names fault) = name_fault_text fault
fault_text (cli.Satisfies fault) = satisfies_text fault
fault_text (Hearing place) = codes "output " ++ (decimal place ++ codes " depends on an input of the same step")
fault_text NoCounter = codes "no circuit found that plays the environment"
fault_text Listen = codes "cannot listen on 127.0.0.1"
fault_text (Connect port) = codes "cannot connect to port " ++ decimal port
fault_text (Worker fault) = worker_text fault
fault_text (cli.Formula fault) = formula.fault_text fault
fault_text TooManyPropositions = codes "more than 16 propositions"
fault_text (cli.Means fault) = means_text fault
fault_text (cli.Untranslated fault) = untranslated_text fault
fault_text Unshown = codes "automaton of the formula is not shown to be right"

-- `parsolve: `, the text and a newline
abbrev pub fault_line : CliFault → List ℕ
fault_line fault = codes "parsolve: " ++ (fault_text fault ++ codes "\n")
