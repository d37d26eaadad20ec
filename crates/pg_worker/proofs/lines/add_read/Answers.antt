use Rattle.pg_worker.proofs.Common.{◌∙◌, ap, arith, length, Some, err_from_is_err_and, WorkerValue}
use Rattle.pg_worker.proofs.Growing.{Reads, is_line, added_more, not_added}
use Rattle.pg_worker.proofs.lines.add_read.Goals as goal

pub add_vertex-requires : goal.add_vertex-requires
add_vertex-requires c =
    let next : Reads c.each.lines c.next.new.self c.next.new.successors.items (Some c.in-Some.head) =
    λ back h. rw c.in-Some.is at (c.in_ok-head.ensures.next back h) in
    let line = is_line c.args.worker.now c.requires.0 c.each.worker c.each.lines c.next.new.self c.next.new.successors.items c.in-Some.head next (c.each.invariant.added c.requires.0 c.requires.1) in
    let some = line.some in
    let size = ap length c.deref.ensures.value in
    omega arith

pub each-preserved : goal.each-preserved
each-preserved c =
    let next : Reads c.each.lines c.next.new.self c.next.new.successors.items (Some c.in-Some.head) =
    λ back h. rw c.in-Some.is at (c.in_ok-head.ensures.next back h) in
    let e = c.in_ok-add_vertex.ensures in
    let added = rw c.deref.ensures.value at e.added in
    let above = rw c.deref.ensures.value at e.above in
    let fit = rw c.deref.ensures.value at e.fit in
    record {
      bounds = ap (λ (w : WorkerValue). w.bounds) added ∙ c.each.invariant.bounds;
      added = λ ls h. added_more c.args.worker.now ls c.each.worker c.add_vertex.new.self c.each.lines c.next.new.self c.next.new.successors.items c.in-Some.head next added above fit (c.each.invariant.added ls h);
    }

pub returns-in_err-add_vertex-clause-refused : goal.returns-in_err-add_vertex-clause-refused
returns-in_err-add_vertex-clause-refused c = λ ls h.
    let p = err_from_is_err_and c.from_residual-in_err-add_vertex.result c.from_residual-in_err-add_vertex.ensures.1 in
    let next : Reads c.each.lines c.next.new.self c.next.new.successors.items (Some c.in-Some.head) =
    λ back left. rw c.in-Some.is at (c.in_ok-head.ensures.next back left) in
    let refused = rw c.deref.ensures.value at c.in_err-add_vertex.ensures.refused in
    rw (p.1, p.2)
    (not_added c.args.worker.now ls c.each.worker c.args.lines c.each.lines c.next.new.self c.next.new.successors.items c.in-Some.head _ next refused h
    (c.each.invariant.added ls h))

pub returns-in_err-add_vertex-clause-bounds : goal.returns-in_err-add_vertex-clause-bounds
returns-in_err-add_vertex-clause-bounds c = rw c.in_err-add_vertex.ensures.same c.each.invariant.bounds
