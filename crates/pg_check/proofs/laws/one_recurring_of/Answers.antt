use Rattle.pg_check.proofs.Common.{priority, priority_bound}
use Rattle.pg_check.proofs.Recurring.{one_loser}
use Rattle.pg_check.proofs.laws.one_recurring_of.Goals as goal

pub returns : goal.returns
returns g c =
    let game = g.P.Play.game c.args.play.now in
    let b = priority_bound game in
    one_loser (λ t. priority game (g.P.Play.vertex c.args.play.now t)) b.0 (λ t. b.1 (g.P.Play.vertex c.args.play.now t))
