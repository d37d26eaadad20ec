use Rattle.pg_means_look.proofs.Sound.{passed}
use Rattle.pg_means_look.proofs.values.until_values.Goals as goal

pub returns : goal.returns
returns c =
    passed c.args.count c.args.back c.args.left.now c.args.right.now c.in_ok-none.none.items c.pass_until-once.result.items
    c.pass_until.result.items c.in_ok-none.ensures c.pass_until-once.ensures.sound c.pass_until-once.ensures.long c.pass_until.ensures.sound
