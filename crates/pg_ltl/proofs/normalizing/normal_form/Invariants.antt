use Rattle.std.proofs.Common.{◌≡◌, length}
use Rattle.pg_ltl.specs.Mirrors.Nodes.{AreNormalNodes, formulas_of}
use Rattle.pg_ltl.specs.Mirrors.Pairs.{PairsStand}
use Rattle.pg_ltl.proofs.normalizing.normal_form.Given as goal

abbrev pub invariant-loop-place : goal.invariant-loop-place
invariant-loop-place l = record {
  count : length l.pairs.items ≡ l.place;
  ordered : AreNormalNodes l.nodes.items;
  stand : PairsStand l.nodes.items l.pairs.items (formulas_of l.formula.nodes.items);
}
