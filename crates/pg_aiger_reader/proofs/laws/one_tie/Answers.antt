use Rattle.pg_aiger_reader.proofs.Once.{one_tie}
use Rattle.pg_aiger_reader.proofs.laws.one_tie.Goals as goal

pub returns : goal.returns
returns c = one_tie
