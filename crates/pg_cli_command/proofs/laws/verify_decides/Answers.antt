use Rattle.pg_cli_command.proofs.Decided.{verify_decides}
use Rattle.pg_cli_command.proofs.laws.verify_decides.Goals as goal

pub returns : goal.returns
returns c = verify_decides c.one_reading.ensures c.one_reading-2.ensures c.one_tie.ensures c.verdicts_decide.ensures
