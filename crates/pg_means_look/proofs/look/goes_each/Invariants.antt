use Rattle.std.proofs.Common.{List, take}
use Rattle.pg_ltl.specs.NormalForms.{NormalForm}
use Rattle.pg_means_look.specs.Mirrors.Views.{automaton_of, certificate_of, GoesEach}
use Rattle.pg_means_look.proofs.look.goes_each.Given as goal

abbrev pub invariant-loop-choice : goal.invariant-loop-choice
invariant-loop-choice g l =
    (forms : List NormalForm)
    → GoesEach (automaton_of l.automaton) (certificate_of forms l.certificate) l.parity l.v l.letter forms (take l.choice-index l.list)
