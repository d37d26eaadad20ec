use Rattle.pg_ltl.specs.NormalForms.{both}
use Rattle.pg_ltl.proofs.Nodes.{paired, operands_kept}
use Rattle.pg_ltl.proofs.pair.disjunction.Goals as goal

pub returns : goal.returns
returns c =
    paired _ _ _ _ _ _ _ _ c.in_ok-yes.ensures c.in_ok-no.ensures
    (operands_kept both _ _ _ _ c.in_ok-yes.ensures.grown c.requires.f.no c.requires.g.no)
