use Rattle.pg_synth.proofs.Common.{◌∙◌, eqb, dedup_is, dedup_rising}
use Rattle.pg_synth.proofs.lines.put_each_once.Goals as goal

pub returns : goal.returns
returns c =
    dedup_is eqb c.sort_unstable.new.self.items c.dedup.new.self.items c.dedup.ensures.filtered
    ∙ dedup_rising c.args.list.now.items c.sort_unstable.new.self.items c.sort_unstable.ensures.permutation c.sort_unstable.ensures.sorted
