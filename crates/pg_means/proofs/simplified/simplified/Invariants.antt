use Rattle.std.proofs.Common.{◌≡◌, length}
use Rattle.pg_ltl.specs.Mirrors.Nodes.{AreNormalNodes, normals_of}
use Rattle.pg_means.specs.Mirrors.Simplified.{AreBelow, PlacesStand}
use Rattle.pg_means.proofs.simplified.simplified.Given as goal

abbrev pub invariant-loop-part : goal.invariant-loop-part
invariant-loop-part l = record {
  count : length l.places.items ≡ l.part;
  ordered : AreNormalNodes l.nodes.items;
  below : AreBelow (length l.nodes.items) l.places.items;
  stand : PlacesStand l.nodes.items l.places.items (normals_of l.entry.nodes.items);
}
