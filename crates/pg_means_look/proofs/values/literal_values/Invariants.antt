use Rattle.std.proofs.Common.{◌≡◌, ◌<◌, ℕ, true, length, get_or}
use Rattle.pg_means_look.specs.Mirrors.Tables.{truth_at}
use Rattle.pg_means_look.specs.Mirrors.Places.{value_at}
use Rattle.pg_means_look.proofs.values.literal_values.Given as goal

abbrev pub invariant-loop-letter : goal.invariant-loop-letter
invariant-loop-letter l = record {
  long : length l.values.items ≡ l.letter-index;
  so : (i : ℕ) → value_at l.values.items i ≡ true
      → (i < length l.letters) × (truth_at l.truths l.proposition (get_or l.letters i 0) ≡ l.is_so);
}
