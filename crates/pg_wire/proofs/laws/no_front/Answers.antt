use Rattle.pg_wire.proofs.Bodies.{no_front as front}
use Rattle.pg_wire.proofs.laws.no_front.Goals as goal

pub returns : goal.returns
returns c = front
