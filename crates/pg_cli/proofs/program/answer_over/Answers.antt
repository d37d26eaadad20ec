use Rattle.std.specs.Prelude.{All}
use Rattle.pg_cli_command.specs.Measuring.{IsClosedMapOf, IsMeasureOf}
use Rattle.pg_cli_command.proofs.MapKinds.{answers_too}
use Rattle.pg_cli.specs.Mirrors.Finding.{IsFoundIf}
use Rattle.pg_cli.proofs.Finding.{found_closed, found_least}
use Rattle.pg_cli.proofs.program.answer_over.Goals as goal

pub returns-clause-answer : goal.returns-clause-answer
returns-clause-answer g c =
    let honest = All g.L.Link.is_honest c.args.links.now in
    answers_too (IsFoundIf honest) IsClosedMapOf (found_closed honest) c.args.command c.args.text.items
    (g.W.Write.contents c.args.writer.now) (g.W.Write.contents c.write_answer_by.new.writer) c.write_answer_by.result c.write_answer_by.ensures.answer

pub returns-clause-honest : goal.returns-clause-honest
returns-clause-honest g c = λ are.
    let honest = All g.L.Link.is_honest c.args.links.now in
    answers_too (IsFoundIf honest) IsMeasureOf (found_least honest are) c.args.command c.args.text.items
    (g.W.Write.contents c.args.writer.now) (g.W.Write.contents c.write_answer_by.new.writer) c.write_answer_by.result c.write_answer_by.ensures.answer
