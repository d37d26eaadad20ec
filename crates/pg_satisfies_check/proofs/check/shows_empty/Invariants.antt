use Rattle.std.proofs.Common.{ℕ, ◌<◌, List}
use Rattle.pg_ltl.specs.NormalForms.{NormalForm}
use Rattle.pg_means_look.specs.Mirrors.Choices.{AreForms}
use Rattle.pg_satisfies_check.specs.Mirrors.Views.{GoesFrom}
use Rattle.pg_satisfies_check.proofs.check.shows_empty.Given as goal

abbrev pub invariant-loop-v : goal.invariant-loop-v
invariant-loop-v g l = (forms : List NormalForm) → AreForms l.nodes forms → (v : ℕ) → v < l.v → GoesFrom l.steps l.certificate forms v
