use Rattle.std.proofs.Common.{◌≡◌, take, true}
use Rattle.std.specs.Prelude.{All}
use Rattle.pg_aiger_netlist.specs.Netlists.{variable}
use Rattle.pg_aiger_netlist.specs.Mirrors.Marks.{marked}
use Rattle.pg_aiger_netlist.proofs.marks.check_uses.Given as goal

abbrev pub invariant-loop-literal : goal.invariant-loop-literal
invariant-loop-literal l = All (λ literal. marked l.row (variable literal) ≡ true) (take l.literal-index l.uses)
