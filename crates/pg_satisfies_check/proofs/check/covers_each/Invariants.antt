use Rattle.std.proofs.Common.{List, take}
use Rattle.pg_ltl.specs.NormalForms.{NormalForm}
use Rattle.pg_means_look.specs.Mirrors.Choices.{AreForms}
use Rattle.pg_satisfies_check.specs.Mirrors.Views.{CoversEach}
use Rattle.pg_satisfies_check.proofs.check.covers_each.Given as goal

abbrev pub invariant-loop-row : goal.invariant-loop-row
invariant-loop-row g l = (forms : List NormalForm) → AreForms l.nodes forms → CoversEach l.steps l.certificate forms l.v (take l.row-index l.rows)
