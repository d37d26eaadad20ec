use Rattle.std.proofs.Common.{◌≡◌, List, length}
use Rattle.pg_ltl.specs.NormalForms.{NormalForm}
use Rattle.pg_means_look.specs.Mirrors.Choices.{AreForms}
use Rattle.pg_means_look.specs.Mirrors.Places.{word_of, AreSound}
use Rattle.pg_means_look.proofs.values.holds_on.Given as goal

abbrev pub invariant-loop-place : goal.invariant-loop-place
invariant-loop-place l = record {
  long : length l.rows.items ≡ l.place;
  sound : (forms : List NormalForm) → AreForms l.nodes forms
      → AreSound (length l.letters) l.back (word_of l.truths l.letters l.back) forms l.rows.items;
}
