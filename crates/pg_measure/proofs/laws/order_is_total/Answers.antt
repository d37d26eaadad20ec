use Rattle.pg_measure.proofs.Order.{at_most_same, at_most_all, at_most_same_value, below_or_at_most, below_is, below_not}
use Rattle.pg_measure.proofs.laws.order_is_total.Goals as goal

pub returns : goal.returns
returns c = record {
  reflexive = at_most_same;
  transitive = at_most_all;
  antisymmetric = at_most_same_value;
  total = below_or_at_most;
  strict = λ m n h. (below_is m n h, below_not m n h);
}
