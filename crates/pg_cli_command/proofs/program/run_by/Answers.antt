use Rattle.pg_cli_command.proofs.Outcomes.{answered_known}
use Rattle.pg_cli_command.proofs.program.run_by.Goals as goal

pub returns-clause-answer : goal.returns-clause-answer
returns-clause-answer g c =
    answered_known (g.F.Solver.finds c.args.solver.now) c.args.command (g.R.Read.remaining c.args.reader.now) (g.W.Write.contents c.args.writer.now)
    (g.W.Write.contents c.write_answer_by.new.writer) c.in_ok-text.text.items c.write_answer_by.result c.in_ok-text.ensures.bytes c.write_answer_by.ensures.answer
