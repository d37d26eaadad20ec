use Rattle.std.proofs.Common.{ℕ, ◌≤◌, Bool, List, length, drop}
use Rattle.pg_ltl.specs.NormalForms.{NormalForm}
use Rattle.pg_ltl.specs.Tableaux.{choices_of}
use Rattle.pg_means_look.specs.Mirrors.Choices.{parts}
use Rattle.pg_means_look.specs.Mirrors.Pools.{IsPool, Has, AreRows}
use Rattle.pg_means_look.proofs.pool.Pool.set.Given as goal

abbrev pub invariant-loop-i : goal.invariant-loop-i
invariant-loop-i l = record {
  within : l.i ≤ length l.set;
  has : (forms : List NormalForm) (letter : ℕ → Bool) → IsPool forms l.fn.self.lists.items → AreRows letter forms l.fn.self.lists.items l.rows
      → Has forms l.fn.self.lists.items l.self.lists.items (choices_of letter (parts forms (drop l.i l.set))) l.number;
}

abbrev pub decreases-loop-i : goal.decreases-loop-i
decreases-loop-i l = l.i
