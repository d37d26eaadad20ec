use Rattle.std.proofs.Common.{take}
use Rattle.pg_aiger_netlist.specs.Mirrors.Hearing.{AreInputs}
use Rattle.pg_aiger_netlist.proofs.hearing.mark_inputs.Given as goal

abbrev pub invariant-loop-literal : goal.invariant-loop-literal
invariant-loop-literal l = AreInputs (take l.literal-index l.inputs) l.row
