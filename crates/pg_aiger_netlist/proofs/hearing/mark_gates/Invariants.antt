use Rattle.std.proofs.Common.{◌++◌, take}
use Rattle.std.specs.Prelude.{map}
use Rattle.pg_aiger.specs.Circuits.{Circuit}
use Rattle.pg_aiger_netlist.specs.Netlists.{IsAcyclic, known_by, sources}
use Rattle.pg_aiger_netlist.specs.Mirrors.Hearing.{AreHeard}
use Rattle.pg_aiger_netlist.specs.Mirrors.Marks.{variable_of}
use Rattle.pg_aiger_netlist.specs.Mirrors.Views.{IsOrder}
use Rattle.pg_aiger_netlist.proofs.hearing.mark_gates.Given as goal

abbrev pub invariant-loop-gate : goal.invariant-loop-gate
invariant-loop-gate l =
    (circuit : Circuit) → IsAcyclic circuit → IsOrder circuit l.ordered → AreHeard circuit (known_by (sources circuit)) l.fn.row
    → AreHeard circuit (known_by (sources circuit) ++ map variable_of (take l.gate-index l.ordered)) l.row
