use Rattle.std.proofs.Common.{◌≡◌, ℕ, ◌<◌, length}
use Rattle.pg_means_look.specs.Mirrors.Tables.{truth_at}
use Rattle.pg_means.specs.Verdicts.{holds_at}
use Rattle.pg_means.proofs.completed.completed.Given as goal

abbrev pub invariant-loop-place : goal.invariant-loop-place
invariant-loop-place l = record {
  long : length l.truths.items ≡ l.place-index;
  so : (letter p : ℕ) → letter < l.width → p < l.place-index → truth_at l.truths.items p letter ≡ holds_at l.places letter p;
}
