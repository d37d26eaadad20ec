use Rattle.std.proofs.Common.{ap}
use Rattle.pg_ltl.specs.NormalForms.{next}
use Rattle.pg_ltl.proofs.Nodes.{paired, normal_in-extends}
use Rattle.pg_ltl.proofs.pair.at_next.Goals as goal

pub returns : goal.returns
returns c =
    paired _ _ _ _ _ _ _ _ c.in_ok-yes.ensures c.in_ok-no.ensures (ap next (normal_in-extends _ _ _ c.in_ok-yes.ensures.grown c.requires.f.no))
