use Rattle.pg_means_look.specs.Mirrors.Choices.{choice_of, choices_in}
use Rattle.pg_means_look.proofs.Steps.{each_more}
use Rattle.pg_means_look.proofs.choice.keep_each.Goals as goal

pub loop-other-preserved : goal.loop-other-preserved
loop-other-preserved c =
    record {
      covered = λ forms.
          each_more forms (choices_in forms c.loop-other.kept.items) (choices_in forms c.keep.new.kept.items) (choice_of forms c.args.choice.now)
          (choice_of forms c.in_ok-both.both) c.args.others.now c.loop-other.other-index c.other-item.result c.loop-other-test.true
          c.other-item.is (c.loop-other.invariant.covered forms) (c.in_ok-keep.ensures.keeps forms) (c.in_ok-keep.ensures.covered forms)
          (c.in_ok-both.ensures forms);
      keeps = λ forms x out. c.in_ok-keep.ensures.keeps forms x (c.loop-other.invariant.keeps forms x out);
    }
