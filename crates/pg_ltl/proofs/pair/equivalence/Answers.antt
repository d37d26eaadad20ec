use Rattle.pg_ltl.proofs.Pairs.{agreements}
use Rattle.pg_ltl.proofs.pair.equivalence.Goals as goal

pub returns : goal.returns
returns c =
    agreements _ _ _ _ _ _ _ _ c.negation.ensures c.requires.f c.requires.g c.in_ok-yes.ensures c.in_ok-no.ensures
