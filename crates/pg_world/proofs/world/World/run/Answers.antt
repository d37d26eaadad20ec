use Rattle.pg_world.proofs.Running.{runs_more}
use Rattle.pg_world.proofs.world.World.run.Goals as goal

pub loop-place-preserved : goal.loop-place-preserved
loop-place-preserved c =
    runs_more c.args.self.now c.loop-place.self c.step.new.self c.args.events.now c.loop-place.place c.index-events-place.result c.index-events-place.result
    c.loop-place.invariant c.loop-place-test.true c.index-events-place.is c.in_default.ensures.ok.0 c.in_default.ensures.ok.1
