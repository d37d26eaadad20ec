use Rattle.pg_means_look.specs.Mirrors.Choices.{choices_in}
use Rattle.pg_means_look.proofs.Steps.{more_covered, more_behind}
use Rattle.pg_means_look.proofs.choice.all_of.Goals as goal

pub firsts-preserved : goal.firsts-preserved
firsts-preserved c forms =
    more_covered forms (choices_in forms c.firsts.kept.items) (choices_in forms c.keep.new.kept.items) c.args.first.now c.firsts.choice-index
    c.choice-item.result c.in_ok-copied.field-0 c.firsts-test.true c.choice-item.is (c.firsts.invariant forms) (c.in_ok-keep.ensures.keeps forms)
    (c.in_ok-copied.ensures forms) (c.in_ok-keep.ensures.covered forms)

pub seconds-preserved : goal.seconds-preserved
seconds-preserved c forms =
    more_behind forms (choices_in forms c.seconds.kept.items) (choices_in forms c.keep-in-seconds.new.kept.items)
    (choices_in forms c.args.first.now) c.args.second.now c.seconds.choice-index c.choice-item-in-seconds.result c.in_ok-copied-2.field-0
    c.seconds-test.true c.choice-item-in-seconds.is (c.seconds.invariant forms) (c.in_ok-keep-2.ensures.keeps forms)
    (c.in_ok-copied-2.ensures forms) (c.in_ok-keep-2.ensures.covered forms)
