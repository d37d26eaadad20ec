use Rattle.pg_worker.proofs.Common.{length, ap, ◌∙◌, length-replicate, few_bounds}
use Rattle.pg_worker.proofs.turn.set_up.Goals as goal

pub invariant_of-result : goal.invariant_of-result
invariant_of-result c = rw c.in_ok-worker.ensures.new (
  few_bounds c.args.setup.now c.requires,
  ap length (c.in_ok-row.ensures.items_if_clones_equal (λ y e. e)) ∙ length-replicate (length c.as_slice-width.result.now) 0 ∙ ap length c.as_slice-width.ensures,
)
