use Rattle.pg_coord_rounds.proofs.Common.{refl, sym, subst, ◌∙◌, All, All-nil, All-push, MeasureValue, Measured, in_row, IsOfPart}
use Rattle.pg_coord_rounds.proofs.Joins.{read_none, read_more, read_holds, read_all}
use Rattle.pg_coord_rounds.proofs.joining.are_of_part.Goals as goal

pub each-init : goal.each-init
each-init c =
    let P : Measured → Type 0 = IsOfPart c.args.bounds.now c.args.cut.now c.args.worker in
    record { size = c.requires; seen = λ ms h. read_none (All P) ms c.args.values h (All-nil P) }

pub each-preserved : goal.each-preserved
each-preserved c =
    let inv = c.each.invariant in
    let P : Measured → Type 0 = IsOfPart c.args.bounds.now c.args.cut.now c.args.worker in
    let m : Measured = (c.in-Some.vertex, in_row c.in-Some.is_top c.next.new.row) in
    let one : P m = subst (λ (n : MeasureValue). P (c.in-Some.vertex, n)) c.lent_row.ensures (c.is_of_part.ensures.0 c.if-not-is_of_part.false) in
    record {
      size = c.next.auto.row ∙ inv.size ∙ sym c.next.ensures.of.1;
      seen = λ ms h.
          read_more (All P) (All P) ms c.each.values c.next.new.self c.each.row c.next.new.row c.in-Some.vertex c.in-Some.is_top c.in-Some.ensures.next
          (λ front all. All-push P front m all one) (inv.seen ms h);
    }

pub returns-then-not-is_of_part : goal.returns-then-not-is_of_part
returns-then-not-is_of_part c = λ ms h. (
  (λ e. absurd (cc)),
  λ every.
      let P : Measured → Type 0 = IsOfPart c.args.bounds.now c.args.cut.now c.args.worker in
      let one = read_holds P (All P) ms c.each.values c.next.new.self c.each.row c.next.new.row c.in-Some.vertex c.in-Some.is_top c.in-Some.ensures.next
      (c.each.invariant.seen ms h) every in
      let is = c.is_of_part.ensures.1 (subst (λ (n : MeasureValue). P (c.in-Some.vertex, n)) (sym c.lent_row.ensures) one) in
      absurd (let not = c.if-not-is_of_part.true in cc),
)

pub returns : goal.returns
returns c = λ ms h. (
  (λ e. read_all (All (IsOfPart c.args.bounds.now c.args.cut.now c.args.worker)) ms c.each.values c.next.new.self c.each.row c.next.new.row
      c.in_default.ensures.next (c.each.invariant.seen ms h)),
  λ e. refl,
)
