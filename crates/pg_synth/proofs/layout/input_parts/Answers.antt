use Rattle.pg_synth.proofs.Common.{[], joined}
use Rattle.pg_synth.proofs.Lists.{pushed}
use Rattle.pg_synth.proofs.layout.input_parts.Goals as goal

pub loop-input-preserved : goal.loop-input-preserved
loop-input-preserved c =
    let cs = c.args.controllable.now in
    pushed (λ x. joined cs x 0) [] c.loop-input.list.items c.push.new.self.items c.loop-input.input c.joined.result c.loop-input.invariant c.in_ok-push.ensures.items c.joined.ensures
