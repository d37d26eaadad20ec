use Rattle.pg_aiger_reader.proofs.TiedOrNot.{tied_or_refused}
use Rattle.pg_aiger_reader.proofs.laws.tied_or_refused.Goals as goal

pub returns : goal.returns
returns c = tied_or_refused
