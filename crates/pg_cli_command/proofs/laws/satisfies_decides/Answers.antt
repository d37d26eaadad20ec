use Rattle.pg_cli_command.proofs.Judged.{satisfies_decides}
use Rattle.pg_cli_command.proofs.laws.satisfies_decides.Goals as goal

pub returns : goal.returns
returns c =
    satisfies_decides c.one_reading.ensures c.one_reading-2.ensures c.one_run.ensures c.satisfies_decides.ensures
