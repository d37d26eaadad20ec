use Rattle.pg_hoa.proofs.OneReading.{one_reading}
use Rattle.pg_hoa.proofs.laws.one_reading.Goals as goal

pub returns : goal.returns
returns c = one_reading
