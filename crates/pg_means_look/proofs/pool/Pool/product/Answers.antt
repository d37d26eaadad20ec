use Rattle.std.proofs.lemmas.Result.{IfOk-weaker}
use Rattle.pg_means_look.proofs.Pooling.{has_product, product_by_first, product_by_second}
use Rattle.pg_means_look.proofs.pool.Pool.product.Goals as goal

pub returns-then-is_nothing : goal.returns-then-is_nothing
returns-then-is_nothing c forms first second is a b =
    product_by_second forms c.args.self.now.lists.items is first second c.args.a c.args.b a b

pub returns-then-is_nothing-2 : goal.returns-then-is_nothing-2
returns-then-is_nothing-2 c forms first second is a b =
    product_by_first forms c.args.self.now.lists.items is first second c.args.a c.args.b a b

pub returns : goal.returns
returns c =
    IfOk-weaker c.number.result _ _ (λ number h forms first second is a b.
    has_product forms c.args.self.now.lists.items c.number.new.self.lists.items first second c.args.a c.args.b number a b
    (h forms is (a.below, b.below))) c.number.ensures
