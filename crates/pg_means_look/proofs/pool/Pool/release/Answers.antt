use Rattle.std.proofs.Common.{[], ◌∷◌, ◌++◌}
use Rattle.std.proofs.lemmas.Result.{IfOk-weaker}
use Rattle.pg_ltl.specs.Tableaux.{asked}
use Rattle.pg_means_look.specs.Mirrors.Choices.{part}
use Rattle.pg_means_look.proofs.Pooling.{grows_on, stands_on, has_on}
use Rattle.pg_means_look.proofs.pool.Pool.release.Goals as goal

pub returns : goal.returns
returns c =
    IfOk-weaker c.product.result _ _ (λ number h forms ls rs is left right.
    let ask = asked (part forms c.args.place) ∷ [] in
    let again = c.in_ok-again.ensures forms is tt in
    let ways = c.in_ok-ways.ensures forms ls ask again.is (stands_on again.grows left) again.stands in
    has_on (grows_on again.grows ways.grows)
    (h forms rs (ls ++ ask) ways.is (stands_on ways.grows (stands_on again.grows right)) ways.stands)) c.product.ensures
