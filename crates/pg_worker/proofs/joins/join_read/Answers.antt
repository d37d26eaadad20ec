use Rattle.pg_worker.proofs.Common.{refl, sym, ◌∙◌, err_from_is_err_and, CanTake, Takes, in_row}
use Rattle.pg_worker.proofs.Taking.{joined_none, joined_more, joined_all, joined_not}
use Rattle.pg_worker.proofs.joins.join_read.Goals as goal

pub each-init : goal.each-init
each-init c = record { size = c.requires; bounds = refl; joined = λ ms h. joined_none c.args.worker.now ms c.args.values h }

pub each-preserved : goal.each-preserved
each-preserved c =
    let i = c.each.invariant in
    let u = c.each.worker in
    let m = in_row c.in-Some.is_top c.next.new.row in
    let can : CanTake u c.in-Some.vertex m = rw c.lent_row.ensures at (c.in_ok-take_value.ensures.ok.0 refl) in
    let takes : Takes u c.take_value.new.self c.in-Some.vertex m c.in_ok-take_value.field-0 = rw c.lent_row.ensures at c.in_ok-take_value.ensures.taken in
    record {
      size = c.next.auto.row ∙ i.size ∙ sym c.next.ensures.of.1;
      bounds = takes.part.bounds ∙ i.bounds;
      joined = λ ms h. joined_more c.args.worker.now ms u c.take_value.new.self c.each.values c.next.new.self c.each.row c.next.new.row c.in-Some.vertex c.in-Some.is_top c.in_ok-take_value.field-0 c.in-Some.ensures.next can takes (i.joined ms h);
    }

pub returns-in_err-take_value-clause-refused : goal.returns-in_err-take_value-clause-refused
returns-in_err-take_value-clause-refused c =
    let p = err_from_is_err_and c.from_residual.result c.from_residual.ensures.1 in
    λ ms h. rw (p.1, p.2) (
      c.in_err-take_value.ensures.refused,
      joined_not c.args.worker.now ms c.each.worker c.each.values c.next.new.self c.each.row c.next.new.row c.in-Some.vertex c.in-Some.is_top c.in-Some.ensures.next (λ can. absurd (cc (c.in_err-take_value.ensures.ok.1 (rw c.lent_row.ensures can)))) (c.each.invariant.joined ms h),
    )

pub returns-in_err-take_value-clause-bounds : goal.returns-in_err-take_value-clause-bounds
returns-in_err-take_value-clause-bounds c = rw c.in_err-take_value.ensures.same c.each.invariant.bounds

pub returns-clause-joined : goal.returns-clause-joined
returns-clause-joined c = λ ms h.
    (joined_all c.args.worker.now ms c.each.worker c.each.values c.next.new.self c.each.row c.next.new.row c.in_default.ensures.next
    (c.each.invariant.joined ms h)).0

pub returns-clause-fit : goal.returns-clause-fit
returns-clause-fit c = λ ms h. (joined_all c.args.worker.now ms c.each.worker c.each.values c.next.new.self c.each.row c.next.new.row c.in_default.ensures.next (c.each.invariant.joined ms h)).1
