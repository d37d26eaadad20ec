use Rattle.parsolve_c.proofs.Apart.{tells_faults_apart}
use Rattle.parsolve_c.proofs.laws.codes_tell_apart.Goals as goal

pub returns : goal.returns
returns c = tells_faults_apart
