use Rattle.pg_synth.proofs.Common.{[], joined}
use Rattle.pg_synth.proofs.Lists.{pushed}
use Rattle.pg_synth.proofs.layout.output_parts.Goals as goal

pub loop-output-preserved : goal.loop-output-preserved
loop-output-preserved c =
    let cs = c.args.controllable.now in
    pushed (λ x. joined cs 0 x) [] c.loop-output.list.items c.push.new.self.items c.loop-output.output c.joined.result c.loop-output.invariant c.in_ok-push.ensures.items c.joined.ensures
