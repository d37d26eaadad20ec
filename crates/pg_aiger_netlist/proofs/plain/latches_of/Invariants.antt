use Rattle.std.proofs.Common.{◌≡◌, take}
use Rattle.pg_aiger.specs.Circuits.{latches_from}
use Rattle.pg_aiger_netlist.proofs.plain.latches_of.Given as goal

abbrev pub invariant-loop-place : goal.invariant-loop-place
invariant-loop-place l = l.list.items ≡ latches_from l.first (take l.place l.nexts)
