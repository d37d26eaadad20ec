use Rattle.std.proofs.Common.{ℕ, ◌≤◌, length}
use Rattle.pg_check_order.specs.Orders.{IsNested}
use Rattle.pg_check_order.proofs.span.are_nested.Given as goal

abbrev pub invariant-loop-i : goal.invariant-loop-i
invariant-loop-i l = record {
  within : l.i ≤ length l.spans;
  later : (j : ℕ) → l.i ≤ j → IsNested l.player l.spans j;
}

abbrev pub decreases-loop-i : goal.decreases-loop-i
decreases-loop-i l = l.i
