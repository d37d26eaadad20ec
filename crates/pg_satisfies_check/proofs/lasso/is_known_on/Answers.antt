use Rattle.std.proofs.Common.{List, Option, Bool, ap, sym, below_more, ◌∙◌}
use Rattle.pg_means_look.proofs.Steps.{row_read}
use Rattle.pg_satisfies_check.specs.Mirrors.Known.{known_at}
use Rattle.pg_satisfies_check.proofs.lasso.is_known_on.Goals as goal

pub loop-row-preserved : goal.loop-row-preserved
loop-row-preserved c =
    below_more _ _ c.loop-row.invariant (
      c.in-Some._known,
      ap (λ (r : List (Option Bool)). known_at r c.args.place)
          (row_read c.args.rows.now c.row-item.result c.loop-row.row-index c.loop-row-test.true c.row-item.is ∙ sym c.deref.ensures.value)
          ∙ sym c.known_at.ensures ∙ c.in-Some.is,
    )
