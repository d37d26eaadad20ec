use Rattle.pg_means_look.specs.Mirrors.Choices.{choice_of}
use Rattle.pg_means_look.proofs.Steps.{left_out_read}
use Rattle.pg_means_look.proofs.choice.is_covered.Goals as goal

pub returns-then-is_no_more : goal.returns-then-is_no_more
returns-then-is_no_more c forms =
    left_out_read forms c.args.kept.now (choice_of forms c.args.choice.now) c.loop-other.other-index c.other-item.result c.loop-other-test.true
    c.other-item.is (c.if-is_no_more.ensures forms)
