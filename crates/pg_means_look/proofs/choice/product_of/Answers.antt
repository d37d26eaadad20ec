use Rattle.pg_means_look.specs.Mirrors.Choices.{choices_in}
use Rattle.pg_means_look.proofs.Steps.{product_more}
use Rattle.pg_means_look.proofs.choice.product_of.Goals as goal

pub loop-choice-preserved : goal.loop-choice-preserved
loop-choice-preserved c forms =
    product_more forms (choices_in forms c.loop-choice.kept.items) (choices_in forms c.keep_each.new.kept.items)
    (choices_in forms c.args.second.now) c.args.first.now c.loop-choice.choice-index c.choice-item.result c.loop-choice-test.true c.choice-item.is
    (c.loop-choice.invariant forms) (c.in_ok-keep_each.ensures.keeps forms) (c.in_ok-keep_each.ensures.covered forms)
