use Rattle.pg_means.proofs.Simplifying.{added_plainly}
use Rattle.pg_means.proofs.simplified.plain.Goals as goal

pub returns : goal.returns
returns c = added_plainly _ _ _ _ c.in_ok-place.ensures
