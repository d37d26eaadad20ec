use Rattle.std.proofs.Common.{length}
use Rattle.pg_aiger_netlist.proofs.step.+number_at.Given as goal

abbrev pub decreases-number_at : goal.decreases-number_at
decreases-number_at l = length l.literals.now
