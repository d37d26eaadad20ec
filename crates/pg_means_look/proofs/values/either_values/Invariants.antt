use Rattle.std.proofs.Common.{◌≡◌, ◌⊎◌, ℕ, true, length}
use Rattle.pg_means_look.specs.Mirrors.Places.{value_at}
use Rattle.pg_means_look.proofs.values.either_values.Given as goal

abbrev pub invariant-loop-i : goal.invariant-loop-i
invariant-loop-i l = record {
  long : length l.values.items ≡ l.i;
  so : (i : ℕ) → value_at l.values.items i ≡ true → (value_at l.left i ≡ true) ⊎ (value_at l.right i ≡ true);
}
