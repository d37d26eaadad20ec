use Rattle.std.proofs.Common.{[], ◌∷◌}
use Rattle.std.proofs.lemmas.Result.{IfOk-weaker}
use Rattle.pg_ltl.specs.Tableaux.{product, put_off}
use Rattle.pg_means_look.specs.Mirrors.Choices.{part}
use Rattle.pg_means_look.proofs.Pooling.{grows_on, stands_on, has_on}
use Rattle.pg_means_look.proofs.pool.Pool.until.Goals as goal

pub returns : goal.returns
returns c =
    IfOk-weaker c.union.result _ _ (λ number h forms ls rs is left right.
    let put = put_off (part forms c.args.place) ∷ [] in
    let off = c.in_ok-off.ensures forms is tt in
    let later = c.in_ok-later.ensures forms ls put off.is (stands_on off.grows left) off.stands in
    has_on (grows_on off.grows later.grows)
    (h forms rs (product ls put) later.is (stands_on later.grows (stands_on off.grows right)) later.stands)) c.union.ensures
