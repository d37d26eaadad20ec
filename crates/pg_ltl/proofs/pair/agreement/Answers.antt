use Rattle.pg_ltl.specs.NormalForms.{both, either}
use Rattle.pg_ltl.proofs.Nodes.{paired, operands_kept}
use Rattle.pg_ltl.proofs.Pairs.{made_of}
use Rattle.pg_ltl.proofs.pair.agreement.Goals as goal

pub returns : goal.returns
returns c =
    made_of either _ _ _ _ _ _ _
    (paired _ _ _ _ _ _ _ _ c.in_ok-yes.ensures c.in_ok-no.ensures
    (operands_kept both _ _ _ _ c.in_ok-yes.ensures.grown c.requires.f.no c.requires.g.no))
    c.in_ok-place.ensures
