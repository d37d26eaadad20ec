use Rattle.pg_satisfies_check.proofs.Cutting.{keeps_pushed}
use Rattle.pg_satisfies_check.proofs.rows.keep.Goals as goal

pub returns : goal.returns
returns c = keeps_pushed c.args.row c.args.rows.now.items c.push.new.self.items c.in_ok-push.ensures.items
