use Rattle.pg_world.proofs.ScriptHeads.{one_script}
use Rattle.pg_world.proofs.laws.one_script.Goals as goal

pub returns : goal.returns
returns c = one_script
