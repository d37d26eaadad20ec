use Rattle.std.proofs.Common.{ℕ, ◌<◌, List, length}
use Rattle.pg_ltl.specs.NormalForms.{NormalForm}
use Rattle.pg_means_look.specs.Mirrors.Choices.{AreForms}
use Rattle.pg_means_look.specs.Mirrors.Views.{automaton_of, certificate_of, GoesAt}
use Rattle.pg_means_look.specs.Mirrors.Pools.{IsPool}
use Rattle.pg_means_look.proofs.look.shows_empty.Given as goal

abbrev pub invariant-loop-letter : goal.invariant-loop-letter
invariant-loop-letter g l = record {
  pool : (forms : List NormalForm) → AreForms l.nodes forms → IsPool forms l.pool.lists.items;
  goes : (forms : List NormalForm) → AreForms l.nodes forms → (letter v : ℕ) → letter < l.letter → v < length l.certificate.nodes.items
      → GoesAt (automaton_of l.automaton) (certificate_of forms l.certificate) l.parity v letter;
}
