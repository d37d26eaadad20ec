use Rattle.pg_world.proofs.Common.{◌≡◌, ap, WorldValue, shown_by}
use Rattle.pg_world.proofs.Replicas.{lifts_to}
use Rattle.pg_world.proofs.world.World.lift_in.Goals as goal

pub make-requires-clause-lifts : goal.make-requires-clause-lifts
make-requires-clause-lifts c =
    let lifted = rw c.in-Some.is at c.in_ok-measure.ensures in
    let same : c.self.inside.game ≡ c.args.self.now.game = ap (λ (o : WorldValue). o.game) c.self.view_is in
    lifts_to c.args.self.now c.args.replica (shown_by c.map.result) c.map.result.bounds.now c.self.inside.game c.args.v c.in-Some.measure.value
    c.map.ensures.map c.map.ensures.bounds same lifted.0 lifted.1
