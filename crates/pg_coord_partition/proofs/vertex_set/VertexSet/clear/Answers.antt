use Rattle.std.proofs.Common.{◌∷◌, ◌++◌, [], ap, subst, ◌∙◌, arith}
use Rattle.std.proofs.lemmas.List.{length-set}
use Rattle.std.specs.Option.{option_to_list}
use Rattle.pg_coord_partition.specs.Mirrors.Listed.{IsVertexSet}
use Rattle.pg_coord_partition.proofs.VertexSets.{unlisted, last_below}
use Rattle.pg_coord_partition.proofs.vertex_set.VertexSet.clear.Goals as goal

pub index_mut-requires : goal.index_mut-requires
index_mut-requires c =
    let w = c.loop-v.self-inside in
    let k : IsVertexSet (c.pop.new.self.items ++ c.in-Some.v ∷ []) w.marked.items w.vertices.cap =
    subst (λ s. IsVertexSet s w.marked.items w.vertices.cap)
    (c.pop.ensures.items ∙ ap (λ o. c.pop.new.self.items ++ option_to_list o) c.in-Some.is) c.loop-v.invariant.listing in
    omega (arith, last_below c.pop.new.self.items w.marked.items w.vertices.cap c.in-Some.v k, w.marked.ok.0, c.v.view_is)

pub loop-v-preserved : goal.loop-v-preserved
loop-v-preserved c =
    let w = c.loop-v.self-inside in
    let k : IsVertexSet (c.pop.new.self.items ++ c.in-Some.v ∷ []) w.marked.items w.vertices.cap =
    subst (λ s. IsVertexSet s w.marked.items w.vertices.cap)
    (c.pop.ensures.items ∙ ap (λ o. c.pop.new.self.items ++ option_to_list o) c.in-Some.is) c.loop-v.invariant.listing in
    record {
      listing = rw c.v.view_is (unlisted c.pop.new.self.items w.marked.items w.vertices.cap c.pop.new.self.cap c.in-Some.v k
          (omega (arith, c.pop.ensures.capacity)));
      count = simp length-set c.loop-v.invariant.count;
    }
