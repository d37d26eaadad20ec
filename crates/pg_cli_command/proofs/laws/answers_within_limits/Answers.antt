use Rattle.pg_cli_command.proofs.Within as within
use Rattle.pg_cli_command.proofs.laws.answers_within_limits.Goals as goal

pub returns : goal.returns
returns c =
    within.answers_within_limits c.one_reading.ensures c.one_winner.ensures c.one_list_of_bounds.ensures c.closed_is_least.ensures c.one_machine.ensures
