use Rattle.pg_measure.proofs.Common.{◌∙◌, subst, sym, dual, IsCount}
use Rattle.pg_measure.proofs.Counted.{counted_dual}
use Rattle.pg_measure.proofs.bounds.Bounds.of_dual.Goals as goal

pub returns : goal.returns
returns c =
    let counted = counted_dual c.args.game.now c.in_ok-counts.counts.items c.in_ok-counts.ensures.counts in
    c.of_counts.ensures (dual c.args.game.now) (subst (IsCount (dual c.args.game.now)) (sym (c.deref.ensures.value ∙ c.in_ok-insert.ensures.items)) counted)
