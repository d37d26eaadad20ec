use Rattle.pg_check_order.proofs.Nested.{nested_is_won}
use Rattle.pg_check_order.proofs.laws.nested_is_won.Goals as goal

pub returns : goal.returns
returns c = nested_is_won
