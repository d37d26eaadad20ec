use Rattle.std.proofs.lemmas.Result.{IfOk-weaker}
use Rattle.pg_means_look.proofs.Pooling.{there, added}
use Rattle.pg_means_look.proofs.pool.Pool.number.Goals as goal

pub returns-then-is_of : goal.returns-then-is_of
returns-then-is_of c forms is within = there forms c.args.self.now.lists.items c.args.origin c.unwrap_or-number.result is c.if-is_of.ensures

pub returns : goal.returns
returns c =
    IfOk-weaker c.add.result _ _ (λ number h forms is within.
    added forms c.args.self.now.lists.items c.add.new.self.lists.items c.args.origin c.in_ok-list.list number h.0 h.1 (c.in_ok-list.ensures forms)
    is within) c.add.ensures
