use Rattle.pg_check.proofs.Listed.{lists_win}
use Rattle.pg_check.proofs.laws.lists_win.Goals as goal

pub returns : goal.returns
returns c = lists_win
