use Rattle.pg_synth.proofs.OneMachine.{one_machine}
use Rattle.pg_synth.proofs.laws.one_machine.Goals as goal

pub returns : goal.returns
returns c a game initial solution machine other is won follows others =
    one_machine a game initial solution machine other is won follows others
