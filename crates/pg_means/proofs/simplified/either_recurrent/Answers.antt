use Rattle.pg_ltl.specs.NormalForms.{either, until, release}
use Rattle.pg_means.proofs.Simplifying.{thrice}
use Rattle.pg_means.proofs.simplified.either_recurrent.Goals as goal

pub returns : goal.returns
returns c =
    thrice either until release _ _ _ _ _ _ _ _ _ _ _ c.requires.f.1 c.requires.f.0 c.in_ok-operands.ensures c.in_ok-ever.ensures c.in_ok-place.ensures
