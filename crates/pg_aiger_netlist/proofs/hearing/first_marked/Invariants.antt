use Rattle.std.proofs.Common.{◌≡◌, ◌<◌, ℕ, false, get_or}
use Rattle.pg_aiger_netlist.specs.Netlists.{variable}
use Rattle.pg_aiger_netlist.specs.Mirrors.Marks.{marked}
use Rattle.pg_aiger_netlist.proofs.hearing.first_marked.Given as goal

abbrev pub invariant-loop-place : goal.invariant-loop-place
invariant-loop-place l = (k : ℕ) → k < l.place → marked l.row (variable (get_or l.literals k 0)) ≡ false
