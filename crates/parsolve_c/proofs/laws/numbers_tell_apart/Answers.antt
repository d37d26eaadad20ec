use Rattle.parsolve_c.proofs.Numbered.{numbers_tell_apart}
use Rattle.parsolve_c.proofs.laws.numbers_tell_apart.Goals as goal

pub returns : goal.returns
returns c = numbers_tell_apart
