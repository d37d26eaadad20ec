use Rattle.std.proofs.Common.{◌≡◌, ℕ, ◌<◌, length, get_or}
use Rattle.pg_satisfies_check.proofs.lasso.numbers.Given as goal

abbrev pub invariant-loop-i : goal.invariant-loop-i
invariant-loop-i l = record {
  long : length l.list.items ≡ l.i;
  same : (k : ℕ) → k < l.i → get_or l.list.items k 0 ≡ k;
}
