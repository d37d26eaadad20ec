use Rattle.std.proofs.Common.{◌≡◌, ℕ, true, false, List, length, get_or}
use Rattle.pg_ltl.specs.NormalForms.{NormalForm}
use Rattle.pg_means_look.specs.Mirrors.Choices.{part, AreForms}
use Rattle.pg_satisfies_check.specs.Mirrors.Lassos.{AreToldOn}
use Rattle.pg_satisfies_check.proofs.lasso.knows_each.Given as goal

abbrev pub invariant-loop-place : goal.invariant-loop-place
invariant-loop-place l = record {
  long : length l.marks.items ≡ l.place;
  told : (forms : List NormalForm) → AreForms l.nodes forms → (k : ℕ) → get_or l.marks.items k false ≡ true
      → AreToldOn l.system l.rows (part forms k);
}
