use Rattle.pg_worker.proofs.Common.{◌≡◌, ap, err_from_is_err_and}
use Rattle.pg_worker.proofs.Working.{lifts_of}
use Rattle.pg_worker.proofs.worker.Worker.lift_some.Goals as goal

pub returns-in_err-quiet-clause-broken_off : goal.returns-in_err-quiet-clause-broken_off
returns-in_err-quiet-clause-broken_off c =
    let p = err_from_is_err_and c.from_residual.result c.from_residual.ensures.1 in
    let e = c.in_err-quiet.ensures in
    rw (p.1, ← c.self.view_is) (
      lifts_of c.self.inside.lifter c.lift_some.new.lifter c.self.inside.kept.items c.lift_some.new.updates.items _ _ _ e.same e.lifts,
      e.few,
    )

pub returns-clause-turn : goal.returns-clause-turn
returns-clause-turn c =
    let e = c.in_ok-quiet.ensures in
    let same : c.replace-updates.result.items ≡ c.lift_some.new.updates.items = ap (λ v. v.items) c.replace-updates.ensures.value in
    rw (← c.self.view_is, same) record {
      lifts = lifts_of c.self.inside.lifter c.lift_some.new.lifter c.self.inside.kept.items _ _ _ _ e.same e.lifts;
      few = e.few;
      fewer = e.fewer;
      rest = rw (e.same.bounds, e.same.lines) e.quiet;
    }
