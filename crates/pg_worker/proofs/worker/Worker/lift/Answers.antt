use Rattle.pg_worker.proofs.Common.{◌≡◌, ◌∙◌, ap, refl, length, owned, measure_at, IsServed, LifterValue, Lifts, part_line}
use Rattle.pg_worker.proofs.Common.{List, Option, Line}
use Rattle.pg_worker.proofs.Working.{worker_of, lifts_of}
use Rattle.pg_worker.proofs.worker.Worker.lift.Goals as goal

pub returns-clause-lifted : goal.returns-clause-lifted
returns-clause-lifted c =
    let w = c.self.inside in
    let old = w.lifter in
    let new = c.lift.new.self in
    let at = measure_at new.map.measures c.args.v in
    let one : Lifts part_line old new c.args.v = rw c.if-not-lift.false at c.lift.ensures.lifted in
    let width : c.in_ok-measure.measure.width ≡ length old.map.bounds = ap (λ m. m.width) c.in_ok-measure.ensures ∙ ap length c.bounds.ensures in
    let measure : c.copy_to.new.measure ≡ owned at (length old.map.bounds) = c.copy_to.ensures ∙ ap (owned at) width in
    rw (← c.self.view_is) (
      refl,
      lifts_of old new w.kept.items w.kept.items _ w.lifted.vertices w.lifted.vertices one.same
          (new.map.measures, record { mine = one.held; lifted = one.lifted; measure = measure }, refl),
    )

pub returns-then-not-lift-clause-served : goal.returns-then-not-lift-clause-served
returns-then-not-lift-clause-served c =
    let w = c.self.inside in
    let old = w.lifter in
    let served : (c.lift.new.self ≡ old) × IsServed old.map.bounds (part_line old.lines) old.map.measures c.args.v =
    rw c.if-not-lift.true at c.lift.ensures.served in
    rw (← c.self.view_is) (served.1, ap (λ (l : LifterValue (List (Option Line))). worker_of l w.kept.items w.lifted.vertices) served.0)
