use Rattle.pg_text.proofs.Limits.{successors_named}
use Rattle.pg_text.proofs.laws.names_successors.Goals as goal

pub returns : goal.returns
returns c = λ bytes game text line n given leads. successors_named text.lines game line n text.game_of given leads
