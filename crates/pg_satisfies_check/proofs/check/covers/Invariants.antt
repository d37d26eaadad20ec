use Rattle.std.proofs.Common.{List}
use Rattle.pg_ltl.specs.NormalForms.{NormalForm}
use Rattle.pg_ltl.specs.Tableaux.{Each}
use Rattle.pg_means_look.specs.Mirrors.Choices.{AreForms}
use Rattle.pg_satisfies_check.specs.Mirrors.Branches.{IsCovered}
use Rattle.pg_satisfies_check.proofs.check.covers.Given as goal

abbrev pub invariant-loop-step : goal.invariant-loop-step
invariant-loop-step g l =
    (forms : List NormalForm) → AreForms l.nodes forms → Each (IsCovered l.steps l.certificate forms l.v) l.stack.items
    → IsCovered l.steps l.certificate forms l.v l.fn.branch
