use Rattle.pg_satisfies_check.proofs.Cutting.{NotAll}
use Rattle.pg_satisfies_check.proofs.rows.rows_of.Given as goal

abbrev pub invariant-loop-step : goal.invariant-loop-step
invariant-loop-step g l = NotAll l.system l.bits l.stack.items l.rows.items
