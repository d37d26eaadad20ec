use Rattle.std.proofs.Common.{◌≡◌, ℕ, ◌≤◌, Bool, length}
use Rattle.pg_ltl.specs.NormalForms.{NormalForm, until}
use Rattle.pg_means_look.specs.Mirrors.Places.{IsSound}
use Rattle.pg_means_look.proofs.values.pass_until.Given as goal

abbrev pub invariant-loop-i : goal.invariant-loop-i
invariant-loop-i l = record {
  within : l.i ≤ length l.values.items;
  long : length l.values.items ≡ length l.fn.values.items;
  sound : (word : ℕ → ℕ → Bool) (f g : NormalForm) → IsSound (length l.fn.values.items) l.back word f l.left
      → IsSound (length l.fn.values.items) l.back word g l.right → IsSound (length l.fn.values.items) l.back word (until f g) l.fn.values.items
      → IsSound (length l.fn.values.items) l.back word (until f g) l.values.items;
}

abbrev pub decreases-loop-i : goal.decreases-loop-i
decreases-loop-i l = l.i
