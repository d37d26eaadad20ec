-- Why `means`, `automaton` and `verify --ltl` have no answer.
use Rattle.pg_cli_command.proofs.Common.{List, ℕ, Fails, Parting, refl}
use Rattle.pg_hoa.specs.declared.fault.HoaFault.TheVariants as hoa
use Rattle.pg_ltl.specs.Texts.{IsRefused}
use Rattle.pg_ltl.specs.declared.fault.FormulaFault.{FormulaFault}
use Rattle.pg_ltl.specs.declared.fault.FormulaFault.TheVariants as formula
use Rattle.pg_means.specs.declared.fault.MeansFault.TheVariants as means
use Rattle.pg_means_texts.specs.Comparing.{Refuses}
use Rattle.pg_means_texts.specs.declared.fault.CompareFault.{CompareFault}
use Rattle.pg_means_texts.specs.declared.fault.CompareFault.TheVariants as compare
use Rattle.pg_aiger_reader.specs.declared.fault.ReaderFault.TheVariants as reader
use Rattle.pg_aiger_netlist.specs.declared.fault.NetlistFault.TheVariants as netlist
use Rattle.pg_satisfies.specs.declared.fault.SatisfiesFault.TheVariants as satisfies
use Rattle.pg_satisfies_texts.specs.Judging as judging
use Rattle.pg_satisfies_texts.specs.declared.fault.SatisfyFault.{SatisfyFault}
use Rattle.pg_satisfies_texts.specs.declared.fault.SatisfyFault.TheVariants as satisfy
use Rattle.pg_cli_command.specs.Faults.{formula_fault, compare_fault, satisfy_fault}
use Rattle.pg_cli_command.specs.Satisfying.{RefusesJudge}
use Rattle.pg_cli_command.specs.Meaning.{RefusesMeans}
use Rattle.pg_cli_command.specs.Translating.{RefusesAutomaton}

pub compare_refused : (Parts : Parting) (first second : List ℕ) (fault : CompareFault) → Parts first second → Refuses first second fault
    → Fails (RefusesMeans Parts) (compare_fault fault)
compare_refused Parts first second (compare.Hoa hoa.OutOfMemory) parted why = tt
compare_refused Parts first second (compare.Hoa _) parted why = (first, second, parted, why)
compare_refused Parts first second (compare.Formula formula.OutOfMemory) parted why = tt
compare_refused Parts first second (compare.Formula _) parted why = (first, second, parted, (why.0.0, why.0.1, why.1))
compare_refused Parts first second compare.TooManyPropositions parted why = (first, second, parted, why)
compare_refused Parts first second (compare.Means means.OutOfMemory) parted why = tt
compare_refused Parts first second (compare.Means _) parted why = (first, second, parted, why)

pub formula_refused : (input : List ℕ) (fault : FormulaFault) → IsRefused input fault → Fails (RefusesAutomaton input) (formula_fault fault)
formula_refused input formula.OutOfMemory why = tt
formula_refused input _ why = why

pub judge_refused : (Parts : Parting) (first second : List ℕ) (fault : SatisfyFault) → Parts first second → judging.Refuses first second fault
    → Fails (RefusesJudge Parts) (satisfy_fault fault)
judge_refused Parts first second (satisfy.Formula formula.OutOfMemory) parted why = tt
judge_refused Parts first second (satisfy.Circuit reader.OutOfMemory) parted why = tt
judge_refused Parts first second (satisfy.Netlist netlist.OutOfMemory) parted why = tt
judge_refused Parts first second (satisfy.Satisfies satisfies.OutOfMemory) parted why = tt
judge_refused Parts first second fault parted why = (first, second, parted, fault, why, refl)
