use Rattle.std.proofs.Common.{List, ◌++◌, take}
use Rattle.pg_ltl.specs.NormalForms.{NormalForm}
use Rattle.pg_means_look.specs.Mirrors.Choices.{choices_in, AreCovered}
use Rattle.pg_means_look.proofs.choice.all_of.Given as goal

abbrev pub invariant-firsts : goal.invariant-firsts
invariant-firsts l = (forms : List NormalForm) → AreCovered (choices_in forms l.kept.items) (choices_in forms (take l.choice-index l.first))

abbrev pub invariant-seconds : goal.invariant-seconds
invariant-seconds l =
    (forms : List NormalForm)
    → AreCovered (choices_in forms l.kept.items) (choices_in forms l.first ++ choices_in forms (take l.choice-index l.second))
