use Rattle.pg_check.proofs.Common.{priority, priority_bound}
use Rattle.pg_check.proofs.Recurring.{one_loser}
use Rattle.pg_check.proofs.laws.one_recurring.Goals as goal

pub returns : goal.returns
returns c game play is_game is_play =
    let b = priority_bound game in one_loser (λ t. priority game (play t)) b.0 (λ s. b.1 (play s))
