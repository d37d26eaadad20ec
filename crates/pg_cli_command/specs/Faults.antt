-- What the faults of lower layers become, and the exit statuses.
use Rattle.std.specs.Prelude.{ℕ}
use Rattle.pg_text.specs.declared.fault.TextFault.{TextFault}
use Rattle.pg_text.specs.declared.fault.TextFault.TheVariants as text
use Rattle.pg_cli_command.specs.declared.fault.CliFault.{CliFault}
use Rattle.pg_check.specs.declared.fault.CheckFault.{CheckFault}
use Rattle.pg_check.specs.declared.fault.CheckFault.TheVariants as check
use Rattle.pg_world.specs.declared.fault.WorldFault.{WorldFault}
use Rattle.pg_world.specs.declared.fault.WorldFault.TheVariants as world
use Rattle.pg_world.specs.declared.script_fault.ScriptFault.{ScriptFault}
use Rattle.pg_world.specs.declared.script_fault.ScriptFault.TheVariants as script
use Rattle.pg_hoa.specs.declared.fault.HoaFault.{HoaFault}
use Rattle.pg_hoa.specs.declared.fault.HoaFault.TheVariants as hoa
use Rattle.pg_synth.specs.declared.fault.SynthFault.{SynthFault}
use Rattle.pg_synth.specs.declared.fault.SynthFault.TheVariants as synth
use Rattle.pg_aiger.specs.declared.fault.AigerFault.{AigerFault}
use Rattle.pg_aiger.specs.declared.fault.AigerFault.TheVariants as aiger
use Rattle.pg_aiger_reader.specs.declared.fault.ReaderFault.{ReaderFault}
use Rattle.pg_aiger_reader.specs.declared.fault.ReaderFault.TheVariants as reader
use Rattle.pg_aiger_reader.specs.declared.fault.TieFault.{TieFault}
use Rattle.pg_aiger_reader.specs.declared.fault.TieFault.TheVariants as tie
use Rattle.pg_aiger_netlist.specs.declared.fault.NetlistFault.{NetlistFault}
use Rattle.pg_aiger_netlist.specs.declared.fault.NetlistFault.TheVariants as netlist
use Rattle.pg_verify.specs.declared.fault.VerifyFault.{VerifyFault}
use Rattle.pg_verify.specs.declared.fault.VerifyFault.TheVariants as verify
use Rattle.pg_ltl.specs.declared.fault.FormulaFault.{FormulaFault}
use Rattle.pg_ltl.specs.declared.fault.FormulaFault.TheVariants as formula
use Rattle.pg_means.specs.declared.fault.MeansFault.{MeansFault}
use Rattle.pg_means.specs.declared.fault.MeansFault.TheVariants as means
use Rattle.pg_means_texts.specs.declared.fault.CompareFault.{CompareFault}
use Rattle.pg_means_texts.specs.declared.fault.CompareFault.TheVariants as compare
use Rattle.pg_satisfies.specs.declared.fault.SatisfiesFault.TheVariants as satisfies
use Rattle.pg_satisfies_texts.specs.declared.fault.SatisfyFault.{SatisfyFault}
use Rattle.pg_satisfies_texts.specs.declared.fault.SatisfyFault.TheVariants as satisfy
use Rattle.pg_worker.specs.declared.fault.WorkerFault.{WorkerFault}
use Rattle.pg_worker.specs.declared.fault.WorkerFault.TheVariants as worker
use Rattle.pg_cli_command.specs.declared.fault.CliFault.TheVariants.{OutOfMemory, Write, Text, Script, World}
use Rattle.pg_cli_command.specs.declared.fault.CliFault.TheVariants.{Undecided, Hoa, Synth, Aiger, Worker}
use Rattle.pg_cli_command.specs.declared.fault.CliFault.TheVariants.{Circuit, Tie, Netlist, Verify}
use Rattle.pg_cli_command.specs.declared.fault.CliFault.TheVariants as cli
use Rattle.pg_cli_command.specs.declared.solver.Untranslated.{Untranslated}
use Rattle.pg_cli_command.specs.declared.solver.Untranslated.TheVariants as untranslated

-- running out of memory and a failure of the writer become the program's own faults
abbrev pub text_fault : TextFault → CliFault
text_fault text.OutOfMemory = OutOfMemory
text_fault text.Write = Write
text_fault fault = Text fault

-- the checker's faults become the program's own faults
abbrev pub check_fault : CheckFault → CliFault
check_fault check.OutOfMemory = OutOfMemory
check_fault (check.Undecided id) = Undecided id

-- the faults of the reader of scripts, and the faults of a world for the event at this place
abbrev pub script_fault : ScriptFault → CliFault
script_fault script.OutOfMemory = OutOfMemory
script_fault fault = Script fault

abbrev pub event_fault : ℕ → WorldFault → CliFault
event_fault place world.OutOfMemory = OutOfMemory
event_fault place fault = World place fault

-- the faults of the reader of automata, and of the makers of games and of circuits
abbrev pub hoa_fault : HoaFault → CliFault
hoa_fault hoa.OutOfMemory = OutOfMemory
hoa_fault fault = Hoa fault

abbrev pub synth_fault : SynthFault → CliFault
synth_fault synth.OutOfMemory = OutOfMemory
synth_fault fault = Synth fault

abbrev pub aiger_fault : AigerFault → CliFault
aiger_fault aiger.OutOfMemory = OutOfMemory
aiger_fault aiger.Write = Write
aiger_fault fault = Aiger fault

-- the faults of the reader of circuits, of the ties to an automaton, of the look at gates, and of the product
abbrev pub circuit_fault : ReaderFault → CliFault
circuit_fault reader.OutOfMemory = OutOfMemory
circuit_fault fault = Circuit fault

abbrev pub tie_fault : TieFault → CliFault
tie_fault tie.OutOfMemory = OutOfMemory
tie_fault fault = Tie fault

abbrev pub netlist_fault : NetlistFault → CliFault
netlist_fault netlist.OutOfMemory = OutOfMemory
netlist_fault fault = Netlist fault

abbrev pub verify_fault : VerifyFault → CliFault
verify_fault verify.OutOfMemory = OutOfMemory
verify_fault fault = Verify fault

-- the faults that a worker's serving ends with
abbrev pub worker_fault : WorkerFault → CliFault
worker_fault worker.OutOfMemory = OutOfMemory
worker_fault fault = Worker fault

-- the faults of the reader of formulas, of the look at a formula, and of the search for its automaton
abbrev pub formula_fault : FormulaFault → CliFault
formula_fault formula.OutOfMemory = OutOfMemory
formula_fault fault = cli.Formula fault

abbrev pub means_fault : MeansFault → CliFault
means_fault means.OutOfMemory = OutOfMemory
means_fault fault = cli.Means fault

abbrev pub compare_fault : CompareFault → CliFault
compare_fault (compare.Hoa fault) = hoa_fault fault
compare_fault (compare.Formula fault) = formula_fault fault
compare_fault compare.TooManyPropositions = cli.TooManyPropositions
compare_fault (compare.Means fault) = means_fault fault

-- the faults of a verdict on a formula and a circuit
abbrev pub satisfy_fault : SatisfyFault → CliFault
satisfy_fault (satisfy.Formula fault) = formula_fault fault
satisfy_fault (satisfy.Circuit fault) = circuit_fault fault
satisfy_fault (satisfy.Netlist fault) = netlist_fault fault
satisfy_fault (satisfy.Names fault) = cli.Names fault
satisfy_fault (satisfy.Satisfies satisfies.OutOfMemory) = OutOfMemory
satisfy_fault (satisfy.Satisfies fault) = cli.Satisfies fault

abbrev pub untranslated_fault : Untranslated → CliFault
untranslated_fault untranslated.OutOfMemory = OutOfMemory
untranslated_fault fault = cli.Untranslated fault

-- `Undecided` has a status of its own
abbrev pub status_of : CliFault → ℕ
status_of (Undecided id) = 3
status_of fault = 1
