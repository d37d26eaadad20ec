use Rattle.pg_means_look.proofs.Meaning.{meaning}
use Rattle.pg_means_look.proofs.laws.meaning.Goals as goal

pub returns : goal.returns
returns c = meaning
