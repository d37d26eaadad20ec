use Rattle.std.proofs.Common.{refl}
use Rattle.pg_ltl.proofs.Nodes.{paired}
use Rattle.pg_ltl.proofs.pair.truth.Goals as goal

pub returns : goal.returns
returns c = paired _ _ _ _ _ _ _ _ c.in_ok-yes.ensures c.in_ok-no.ensures refl
