use Rattle.std.proofs.Common.{◌≡◌, ℕ, ◌<◌, ◌⊎◌, true, length}
use Rattle.pg_means_look.specs.Mirrors.Places.{behind, value_at}
use Rattle.pg_means_look.proofs.values.is_closed.Given as goal

abbrev pub invariant-loop-i : goal.invariant-loop-i
invariant-loop-i l =
    (i : ℕ) → i < l.i → value_at l.values i ≡ true
    → (value_at l.right i ≡ true) × ((value_at l.left i ≡ true) ⊎ (value_at l.values (behind (length l.values) l.back i) ≡ true))
