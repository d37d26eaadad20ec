use Rattle.pg_means_look.proofs.Steps.{pushed_covered, pushed_keeps}
use Rattle.pg_means_look.proofs.choice.keep.Goals as goal

pub returns-clause-covered : goal.returns-clause-covered
returns-clause-covered c forms =
    pushed_covered forms c.args.kept.now.items c.push.new.self.items c.args.choice c.in_ok-push.ensures.items

pub returns-clause-keeps : goal.returns-clause-keeps
returns-clause-keeps c forms =
    pushed_keeps forms c.args.kept.now.items c.push.new.self.items c.args.choice c.in_ok-push.ensures.items
