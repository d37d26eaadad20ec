use Rattle.pg_aiger_reader.proofs.Once.{one_reading}
use Rattle.pg_aiger_reader.proofs.laws.one_reading.Goals as goal

pub returns : goal.returns
returns c = one_reading
