use Rattle.std.proofs.Common.{◌≡◌, ◌≤◌, length}
use Rattle.pg_means_look.proofs.values.pass_release.Given as goal

abbrev pub invariant-loop-i : goal.invariant-loop-i
invariant-loop-i l = (l.i ≤ length l.values.items) × (length l.values.items ≡ length l.fn.values.items)

abbrev pub decreases-loop-i : goal.decreases-loop-i
decreases-loop-i l = l.i
