use Rattle.std.proofs.lemmas.Result.{IfOk-weaker}
use Rattle.pg_means_look.proofs.Pooling.{has_union}
use Rattle.pg_means_look.proofs.pool.Pool.union.Goals as goal

pub returns : goal.returns
returns c =
    IfOk-weaker c.number.result _ _ (λ number h forms first second is a b.
    has_union forms c.args.self.now.lists.items c.number.new.self.lists.items first second c.args.a c.args.b number a b
    (h forms is (a.below, b.below))) c.number.ensures
