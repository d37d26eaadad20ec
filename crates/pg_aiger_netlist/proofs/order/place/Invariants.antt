use Rattle.std.proofs.Common.{take}
use Rattle.pg_aiger_netlist.specs.Mirrors.Marks.{HasPassed}
use Rattle.pg_aiger_netlist.proofs.order.place.Given as goal

abbrev pub invariant-loop-gate : goal.invariant-loop-gate
invariant-loop-gate l = HasPassed l.fn.known l.fn.ordered.items (take l.gate-index l.gates) l.known l.ordered.items l.waiting.items
