use Rattle.std.proofs.Common.{◌≡◌, List, length}
use Rattle.pg_ltl.specs.NormalForms.{NormalForm}
use Rattle.pg_means_look.specs.Mirrors.Tables.{truth_at}
use Rattle.pg_means_look.specs.Mirrors.Choices.{AreForms}
use Rattle.pg_means_look.specs.Mirrors.Pools.{IsPool, AreRows}
use Rattle.pg_means_look.proofs.pool.Pool.rows.Given as goal

abbrev pub invariant-loop-place : goal.invariant-loop-place
invariant-loop-place l = record {
  long : length l.rows.items ≡ l.place;
  rows : (forms : List NormalForm) → AreForms l.nodes forms → IsPool forms l.fn.self.lists.items
      → IsPool forms l.self.lists.items × AreRows (λ p. truth_at l.truths p l.letter) forms l.self.lists.items l.rows.items;
}
