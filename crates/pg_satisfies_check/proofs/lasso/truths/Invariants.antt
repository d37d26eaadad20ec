use Rattle.std.proofs.Common.{◌≡◌, ℕ, ◌+◌, ◌<◌, length}
use Rattle.pg_means_look.specs.Mirrors.Tables.{row_at}
use Rattle.pg_satisfies_check.specs.Mirrors.Lassos.{truth_on}
use Rattle.pg_satisfies_check.proofs.lasso.truths.Given as goal

abbrev pub invariant-loop-p : goal.invariant-loop-p
invariant-loop-p l = record {
  long : length l.lists.items ≡ l.p;
  so : (q : ℕ) → q < l.p → row_at l.lists.items q ≡ truth_on l.rows (length l.system.latches.items + q);
}
