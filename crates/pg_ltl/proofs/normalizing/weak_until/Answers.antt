use Rattle.pg_ltl.proofs.Pairs.{adds_negated, weak_adds}
use Rattle.pg_ltl.proofs.normalizing.weak_until.Goals as goal

pub returns : goal.returns
returns c =
    λ a b s t. adds_negated _ _ c.in_ok-failure.failure _ _ _ c.negation-3.ensures
    (weak_adds _ _ _ c.in_ok-some.some c.in_ok-failure.failure c.args.f c.args.g c.negation.result c.negation-2.result a b s t
    c.in_ok-some.ensures c.negation.ensures c.negation-2.ensures c.in_ok-failure.ensures)
