use Rattle.std.proofs.Common.{List, take}
use Rattle.pg_ltl.specs.NormalForms.{NormalForm}
use Rattle.pg_ltl.specs.Tableaux.{product}
use Rattle.pg_means_look.specs.Mirrors.Choices.{choices_in, AreCovered}
use Rattle.pg_means_look.proofs.choice.product_of.Given as goal

abbrev pub invariant-loop-choice : goal.invariant-loop-choice
invariant-loop-choice l =
    (forms : List NormalForm)
    → AreCovered (choices_in forms l.kept.items) (product (choices_in forms (take l.choice-index l.first)) (choices_in forms l.second))
