use Rattle.pg_coord_rounds.proofs.task.Task.width.Goals as goal

pub returns-clause-few : goal.returns-clause-few
returns-clause-few c = rw c.pairs.ensures.value (c.few_bounds.ensures _ c.self.invariant.well)
