use Rattle.pg_aiger.proofs.ReadingBack.{reads_back}
use Rattle.pg_aiger.proofs.laws.circuit_reads_back.Goals as goal

pub returns : goal.returns
returns c = reads_back
