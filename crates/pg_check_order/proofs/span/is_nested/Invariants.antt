use Rattle.std.proofs.Common.{ℕ, ◌-◌, ◌<◌, ◌≤◌, length}
use Rattle.pg_check_order.specs.Orders.{span_at, LeadsBefore}
use Rattle.pg_check_order.proofs.span.is_nested.Given as goal

abbrev pub invariant-loop-j : goal.invariant-loop-j
invariant-loop-j l = record {
  after : l.i < l.j;
  lower : (u : ℕ) → l.i ≤ u → u < l.j → LeadsBefore l.spans l.i u → (span_at l.spans u).priority ≤ (span_at l.spans l.i).priority;
  inner : (u : ℕ) → l.i ≤ u → u < l.j → LeadsBefore l.spans l.i u → (span_at l.spans u).end ≤ (span_at l.spans l.i).end;
}

abbrev pub decreases-loop-j : goal.decreases-loop-j
decreases-loop-j l = length l.spans - l.j
