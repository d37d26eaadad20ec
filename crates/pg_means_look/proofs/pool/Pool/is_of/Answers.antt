use Rattle.std.proofs.Common.{◌≡◌, arith}
use Rattle.pg_means_look.specs.Mirrors.Pools.{IsAt}
use Rattle.pg_means_look.proofs.Steps.{on_true_weaker}
use Rattle.pg_means_look.proofs.pool.Pool.is_of.Goals as goal

pub returns : goal.returns
returns c =
    on_true_weaker c.is_same.result (c.index.result.now.origin ≡ c.args.origin) (IsAt c.args.self.now.lists.items c.args.origin c.args.number)
    (λ same. record {
      below = omega (arith, c.len.ensures, c.if-number-len.false, c.args.self.now.lists.ok.0);
      found = c.index.result.now;
      at = c.index.ensures;
      same = same;
    })
    c.is_same.ensures
