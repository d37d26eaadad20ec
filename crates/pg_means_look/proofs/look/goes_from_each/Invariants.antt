use Rattle.std.proofs.Common.{ℕ, ◌<◌, List}
use Rattle.pg_ltl.specs.NormalForms.{NormalForm}
use Rattle.pg_means_look.specs.Mirrors.Tables.{truth_at}
use Rattle.pg_means_look.specs.Mirrors.Views.{automaton_of, certificate_of, GoesAt}
use Rattle.pg_means_look.specs.Mirrors.Pools.{AreNumbers}
use Rattle.pg_means_look.proofs.look.goes_from_each.Given as goal

abbrev pub invariant-loop-v : goal.invariant-loop-v
invariant-loop-v g l =
    (forms : List NormalForm)
    → AreNumbers (λ p. truth_at l.automaton.truths.items p l.letter) forms l.certificate.sets.items l.lists l.numbers → (v : ℕ) → v < l.v
    → GoesAt (automaton_of l.automaton) (certificate_of forms l.certificate) l.parity v l.letter
