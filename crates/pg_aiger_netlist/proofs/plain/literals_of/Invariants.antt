use Rattle.std.proofs.Common.{◌≡◌}
use Rattle.pg_aiger.specs.Circuits.{literals_from}
use Rattle.pg_aiger_netlist.proofs.plain.literals_of.Given as goal

abbrev pub invariant-loop-i : goal.invariant-loop-i
invariant-loop-i l = l.list.items ≡ literals_from l.first l.i
