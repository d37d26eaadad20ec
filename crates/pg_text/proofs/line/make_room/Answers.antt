use Rattle.pg_text.proofs.Common.{◌∙◌, ap, eqb, dedup_is, rising, dedup_rising, rising_rises, rises_already}
use Rattle.pg_text.proofs.line.make_room.Goals as goal

pub returns : goal.returns
returns c =
    let sorted = c.sort_unstable.new.self.items in
    let once = dedup_is eqb sorted c.dedup.new.self.items c.dedup.ensures.filtered
    ∙ dedup_rising c.args.list.now.items sorted c.sort_unstable.ensures.permutation c.sort_unstable.ensures.sorted in
    ap rising (c.reserve.ensures.items ∙ once) ∙ rises_already (rising c.args.list.now.items) (rising_rises c.args.list.now.items)
