use Rattle.pg_cli_command.proofs.Outcomes.{at_fault, printed}
use Rattle.pg_cli_command.proofs.program.replay_texts.Goals as goal

pub returns-clause-answer : goal.returns-clause-answer
returns-clause-answer g c = printed _ _ _ _ _ _ c.replay.ensures.answer c.print.ensures.written

pub returns-clause-refused : goal.returns-clause-refused
returns-clause-refused g c = at_fault _ _ _ c.replay.ensures.refused c.print.ensures.refused
