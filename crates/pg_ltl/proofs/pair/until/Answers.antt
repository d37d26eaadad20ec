use Rattle.pg_ltl.specs.NormalForms.{release}
use Rattle.pg_ltl.proofs.Nodes.{paired, operands_kept}
use Rattle.pg_ltl.proofs.pair.until.Goals as goal

pub returns : goal.returns
returns c =
    paired _ _ _ _ _ _ _ _ c.in_ok-yes.ensures c.in_ok-no.ensures
    (operands_kept release _ _ _ _ c.in_ok-yes.ensures.grown c.requires.f.no c.requires.g.no)
