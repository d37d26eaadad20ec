use Rattle.std.proofs.Common.{◌≡◌, length}
use Rattle.std.specs.Prelude.{vec_len}
use Rattle.pg_coord_partition.specs.Mirrors.Listed.{IsVertexSet}
use Rattle.pg_coord_partition.proofs.vertex_set.VertexSet.clear.Given as goal

abbrev pub invariant-loop-v : goal.invariant-loop-v
invariant-loop-v l = record {
  listing : IsVertexSet l.self-inside.vertices.items l.self-inside.marked.items l.self-inside.vertices.cap;
  count : length l.self-inside.marked.items ≡ length l.initial.self-inside.marked.items;
}

abbrev pub decreases-loop-v : goal.decreases-loop-v
decreases-loop-v l = vec_len l.self-inside.vertices
