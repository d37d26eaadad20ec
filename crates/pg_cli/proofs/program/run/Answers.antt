use Rattle.pg_cli_command.specs.Measuring.{IsMeasureOf}
use Rattle.pg_cli_command.proofs.Outcomes.{answered_known}
use Rattle.pg_cli.proofs.program.run.Goals as goal

pub returns-clause-answer : goal.returns-clause-answer
returns-clause-answer g c =
    answered_known IsMeasureOf c.args.command (g.R.Read.remaining c.args.reader.now) (g.W.Write.contents c.args.writer.now)
    (g.W.Write.contents c.write_answer.new.writer) c.in_ok-text.text.items c.write_answer.result c.in_ok-text.ensures.bytes
    c.write_answer.ensures.answer
