use Rattle.std.specs.Prelude.{All, Contains}
use Rattle.pg_aiger_netlist.proofs.order.picked.Given as goal

abbrev pub invariant-loop-place : goal.invariant-loop-place
invariant-loop-place l = All (Contains l.gates) l.list.items
