use Rattle.std.proofs.Common.{◌≡◌, ℕ, Bool, List, length}
use Rattle.pg_ltl.specs.NormalForms.{NormalForm}
use Rattle.pg_means_look.specs.Mirrors.Pools.{IsPool, Grows, AreRows, AreNumbers}
use Rattle.pg_means_look.proofs.pool.Pool.numbers.Given as goal

abbrev pub invariant-loop-set : goal.invariant-loop-set
invariant-loop-set l = record {
  long : length l.numbers.items ≡ l.set-index;
  numbers : (forms : List NormalForm) (letter : ℕ → Bool) → IsPool forms l.fn.self.lists.items
      → AreRows letter forms l.fn.self.lists.items l.rows
      → IsPool forms l.self.lists.items × Grows l.fn.self.lists.items l.self.lists.items
      × AreNumbers letter forms l.sets l.self.lists.items l.numbers.items;
}
