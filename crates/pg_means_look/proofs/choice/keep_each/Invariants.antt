use Rattle.std.proofs.Common.{List, take}
use Rattle.pg_ltl.specs.NormalForms.{NormalForm}
use Rattle.pg_ltl.specs.Tableaux.{with_each}
use Rattle.pg_means_look.specs.Mirrors.Choices.{choice_of, choices_in, AreCovered, Keeps}
use Rattle.pg_means_look.proofs.choice.keep_each.Given as goal

abbrev pub invariant-loop-other : goal.invariant-loop-other
invariant-loop-other l = record {
  covered : (forms : List NormalForm)
      → AreCovered (choices_in forms l.kept.items) (with_each (choice_of forms l.choice) (choices_in forms (take l.other-index l.others)));
  keeps : (forms : List NormalForm) → Keeps (choices_in forms l.fn.kept.items) (choices_in forms l.kept.items);
}
