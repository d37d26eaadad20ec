use Rattle.pg_worker.proofs.Common.{◌≡◌, ◌∷◌, ◌++◌, [], ◌∙◌, ap, arith, length, owned, measure_at, Update, IsLiftBy, part_line}
use Rattle.std.proofs.Common.{length-append}
use Rattle.pg_worker.proofs.Runs.{same_lines, lift_on, lifts_more}
use Rattle.pg_worker.proofs.lifting.lift_some.Goals as goal

pub loop-preserved : goal.loop-preserved
loop-preserved c =
    let i = c.loop.invariant in
    let old = c.args.lifter.now in
    let new = c.lift_next.new.self in
    let lines = part_line old.lines in
    let bs = old.map.bounds in
    let f = old.map.measures in
    let g = c.loop.lifter.map.measures in
    let h = new.map.measures in
    let v = c.in-Some.v in
    let next = c.in-Some.ensures.lifted in
    let lift = lift_on old c.loop.lifter new c.in-Some.v i.same next in
    let u : Update = record { vertex = v; measure = c.copy_to.new.measure } in
    let items : c.push_reserved.new.self.items ≡ c.loop.updates.items ++ u ∷ [] = c.push_reserved.ensures.items
    ∙ ap (λ us. us ++ u ∷ []) c.in_ok-measure.ensures.items in
    let width : c.in_ok-measure.measure.width ≡ length bs = c.in_ok-measure.ensures.width ∙ (ap length c.bounds.ensures ∙ ap length i.same.bounds) in
    let measure : c.copy_to.new.measure ≡ owned (measure_at h v) (length bs) = c.copy_to.ensures ∙ ap (owned (measure_at h v)) width in
    let by : IsLiftBy bs lines g u h = record { mine = lift.0; lifted = lift.1; measure = measure } in
    record {
      same = same_lines old c.loop.lifter new i.same next.same;
      lifts = rw items (lifts_more bs lines f g h c.loop.updates.items u i.lifts by);
      lifted = rw items (omega (arith, length-append c.loop.updates.items (u ∷ []), i.lifted));
    }

pub returns-clause-quiet : goal.returns-clause-quiet
returns-clause-quiet c =
    let s = c.loop.invariant.same in
    rw c.is_quiet.ensures.same (rw (s.bounds, s.lines) at c.is_quiet.ensures.quiet)
