use Rattle.std.proofs.Common.{◌≡◌, length}
use Rattle.pg_means.specs.Mirrors.Tables.{AreEdges}
use Rattle.pg_means.proofs.completed.edges_of.Given as goal

abbrev pub invariant-loop-place : goal.invariant-loop-place
invariant-loop-place l = record {
  long : length l.edges.items ≡ l.place;
  edges : AreEdges l.automaton l.width l.edges.items;
}
