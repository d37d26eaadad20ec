use Rattle.std.proofs.Common.{◌≡◌, ◌++◌, take}
use Rattle.std.specs.Prelude.{map}
use Rattle.pg_aiger.specs.declared.gate.Gate.{Gate}
use Rattle.pg_aiger.specs.declared.gate.Latch.{Latch}
use Rattle.pg_aiger_netlist.proofs.marks.uses_of.Given as goal

abbrev pub invariant-loop-left : goal.invariant-loop-left
invariant-loop-left l = l.literals.items ≡ map Gate.rhs0 (take l.left-index l.gates)

abbrev pub invariant-loop-right : goal.invariant-loop-right
invariant-loop-right l = l.literals.items ≡ map Gate.rhs0 l.gates ++ map Gate.rhs1 (take l.right-index l.gates)

abbrev pub invariant-loop-latch : goal.invariant-loop-latch
invariant-loop-latch l =
    l.literals.items ≡ map Gate.rhs0 l.gates ++ (map Gate.rhs1 l.gates ++ map Latch.next (take l.latch-index l.latches))
