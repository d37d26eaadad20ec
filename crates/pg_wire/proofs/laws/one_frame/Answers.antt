use Rattle.pg_wire.proofs.Bodies.{one_frame as one}
use Rattle.pg_wire.proofs.laws.one_frame.Goals as goal

pub returns : goal.returns
returns c = one
