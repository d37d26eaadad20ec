use Rattle.pg_ltl.specs.NormalForms.{both, until, release}
use Rattle.pg_means.proofs.Simplifying.{thrice}
use Rattle.pg_means.proofs.simplified.both_persistent.Goals as goal

pub returns : goal.returns
returns c =
    thrice both release until _ _ _ _ _ _ _ _ _ _ _ c.requires.f.1 c.requires.f.0 c.in_ok-operands.ensures c.in_ok-always.ensures c.in_ok-place.ensures
