-- No fault of `verify --ltl` is that nothing listens.
use Rattle.std.proofs.Common.{◌≡◌}
use Rattle.pg_ltl.specs.declared.fault.FormulaFault.TheVariants as formula
use Rattle.pg_aiger_reader.specs.declared.fault.ReaderFault.TheVariants as reader
use Rattle.pg_aiger_netlist.specs.declared.fault.NetlistFault.TheVariants as netlist
use Rattle.pg_satisfies.specs.declared.fault.SatisfiesFault.TheVariants as satisfies
use Rattle.pg_satisfies_texts.specs.declared.fault.SatisfyFault.{SatisfyFault}
use Rattle.pg_satisfies_texts.specs.declared.fault.SatisfyFault.TheVariants as satisfy
use Rattle.pg_cli_command.specs.declared.fault.CliFault.TheVariants as cli
use Rattle.pg_cli_command.specs.Faults.{satisfy_fault}

pub judge_listens : (why : SatisfyFault) → cli.Listen ≡ satisfy_fault why → ⊥
judge_listens (satisfy.Formula formula.OutOfMemory) is = absurd (cc)
judge_listens (satisfy.Formula (formula.Syntax byte)) is = absurd (cc)
judge_listens (satisfy.Formula formula.TooManyNames) is = absurd (cc)
judge_listens (satisfy.Formula formula.TooManyOperators) is = absurd (cc)
judge_listens (satisfy.Circuit reader.OutOfMemory) is = absurd (cc)
judge_listens (satisfy.Circuit (reader.Syntax byte)) is = absurd (cc)
judge_listens (satisfy.Circuit (reader.NumberTooLarge byte)) is = absurd (cc)
judge_listens (satisfy.Circuit reader.TooLarge) is = absurd (cc)
judge_listens (satisfy.Circuit reader.TooFewVariables) is = absurd (cc)
judge_listens (satisfy.Circuit reader.OtherVariables) is = absurd (cc)
judge_listens (satisfy.Circuit (reader.LeftOut section)) is = absurd (cc)
judge_listens (satisfy.Circuit (reader.Reset byte)) is = absurd (cc)
judge_listens (satisfy.Netlist netlist.OutOfMemory) is = absurd (cc)
judge_listens (satisfy.Netlist (netlist.NotAVariable literal)) is = absurd (cc)
judge_listens (satisfy.Netlist (netlist.DefinedTwice variable)) is = absurd (cc)
judge_listens (satisfy.Netlist (netlist.Undefined variable)) is = absurd (cc)
judge_listens (satisfy.Netlist (netlist.Cycle variable)) is = absurd (cc)
judge_listens (satisfy.Names fault) is = absurd (cc)
judge_listens (satisfy.Satisfies satisfies.OutOfMemory) is = absurd (cc)
judge_listens (satisfy.Satisfies satisfies.TooLarge) is = absurd (cc)
judge_listens (satisfy.Satisfies satisfies.Undecided) is = absurd (cc)
