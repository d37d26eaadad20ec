use Rattle.pg_ltl.proofs.OneReading.{one_reading}
use Rattle.pg_ltl.proofs.laws.one_reading.Goals as goal

pub returns : goal.returns
returns c = one_reading
