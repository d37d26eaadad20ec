use Rattle.std.proofs.Common.{◌≡◌, ◌+◌, ℕ, get_or, ◌∙◌, arith}
use Rattle.std.proofs.lemmas.Map.Keys.{ge_from_not_lt}
use Rattle.std.proofs.lemmas.List.Sorted.{sum_by-IsPermutation}
use Rattle.pg_coord_partition.specs.Mirrors.Listed.{times}
use Rattle.pg_coord_partition.proofs.VertexSets.{rising_by, contains_times, times_contains}
use Rattle.pg_coord_partition.proofs.vertex_set.VertexSet.sort.Goals as goal
use Rattle.pg_coord_partition.proofs.vertex_set.VertexSet.sort.Goals.{After-sort_unstable}

again : (c : After-sort_unstable) (v : ℕ) → times v c.sort_unstable.new.self.items ≡ times v c.self.inside.vertices.items
again c v = sum_by-IsPermutation _ c.self.inside.vertices.items c.sort_unstable.new.self.items c.sort_unstable.ensures.permutation

pub returns-clause-rising : goal.returns-clause-rising
returns-clause-rising c = rising_by c.sort_unstable.new.self.items c.self.inside.marked.items (λ v. again c v ∙ c.self.invariant.each v)
    (λ k lt. let h = c.sort_unstable.ensures.sorted k 0 (omega arith) lt in
    ge_from_not_lt (get_or c.sort_unstable.new.self.items (k + 1) 0) (get_or c.sort_unstable.new.self.items k 0) h)

pub returns-clause-more : goal.returns-clause-more
returns-clause-more c = λ u h.
    let k = rw (← c.self.view_is) at h in
    times_contains c.sort_unstable.new.self.items u (let t = contains_times c.self.inside.vertices.items u k.0 u k.1 k.2 in let a = again c u in omega arith)

pub returns-clause-only : goal.returns-clause-only
returns-clause-only c = λ u h.
    rw (← c.self.view_is) (times_contains c.self.inside.vertices.items u
    (let t = contains_times c.sort_unstable.new.self.items u h.0 u h.1 h.2 in let a = again c u in omega arith))
