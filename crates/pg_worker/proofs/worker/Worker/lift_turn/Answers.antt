use Rattle.pg_worker.proofs.Common.{◌≡◌, ℕ, get_or, refl, subst, Any, get_or_default, Update}
use Rattle.pg_worker.proofs.Working.{lifts_of}
use Rattle.pg_worker.proofs.worker.Worker.lift_turn.Goals as goal

pub returns : goal.returns
returns c =
    let e = c.lift_turn-quiet.ensures in
    let t = e.turn in
    rw (← c.self.view_is) record {
      updates = t.updates;
      turn = record {
        lifts = lifts_of c.self.inside.lifter c.lift_turn-quiet.new.lifter c.self.inside.kept.items c.self.inside.kept.items t.updates _ _ e.same t.lifts;
        few = t.count.0;
        fewer = t.count.1;
        rest = rw (e.same.bounds, e.same.lines) e.quiet;
      };
      lifted = record {
        rising = c.sort.ensures.rising;
        each = λ i d lt. c.sort.ensures.more _ (t.each i d lt);
        only = λ i d lt.
            let w = get_or c.sort.new.self.vertices i d in
            let k = c.sort.ensures.only w (i, lt, get_or_default c.sort.new.self.vertices i w d lt) in
            subst (λ (u : ℕ). Any (λ (x : Update). x.vertex ≡ u) t.updates) k.2 (t.only k.0 w k.1);
      };
      kept = refl;
    }
