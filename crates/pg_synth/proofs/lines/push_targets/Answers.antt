use Rattle.pg_synth.specs.Mirrors.GameLines.{target}
use Rattle.pg_synth.proofs.Lists.{pushed}
use Rattle.pg_synth.proofs.lines.push_targets.Goals as goal

pub loop-letter-preserved : goal.loop-letter-preserved
loop-letter-preserved c =
    pushed (target c.args.automaton.now c.args.state) c.args.list.now.items c.loop-letter.list.items c.push.new.self.items c.loop-letter.letter
    c.target.result c.loop-letter.invariant c.in_ok-push.ensures.items c.target.ensures
