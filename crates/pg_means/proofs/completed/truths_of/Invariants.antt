use Rattle.std.proofs.Common.{◌≡◌, ℕ, ◌<◌, ◌==◌, false, length, get_or}
use Rattle.std.specs.Int.{bit_at}
use Rattle.pg_means.proofs.completed.truths_of.Given as goal

abbrev pub invariant-loop-letter : goal.invariant-loop-letter
invariant-loop-letter l = record {
  long : length l.row.items ≡ l.letter;
  bits : (letter : ℕ) → letter < l.letter → get_or l.row.items letter false ≡ (bit_at letter l.proposition == 1);
}
