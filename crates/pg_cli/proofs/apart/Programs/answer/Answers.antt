use Rattle.std.proofs.Common.{Some, IfOk, IfErr, sym, subst}
use Rattle.pg_cli_command.specs.Measuring.{IsClosedMapOf, IsMeasureOf}
use Rattle.pg_cli_command.specs.Answers.{PrintsBy, Prints, RefusesBy, Refuses}
use Rattle.pg_cli.proofs.Telling.{shown_in_memory, refused_in_memory, never_unread, never_unwritten}
use Rattle.pg_cli.proofs.apart.Programs.answer.Goals as goal

pub returns-clause-answer : goal.returns-clause-answer
returns-clause-answer g c =
    subst (λ r. IfOk r (λ o. PrintsBy IsClosedMapOf c.args.command c.args.text.items o.items)) (sym c.in_memory.ensures)
    (shown_in_memory (λ o. o.items) IsClosedMapOf c.args.command c.args.text.items c.new-output.result.items c.write_answer-written.new.writer
    c.write_answer-written.result c.new-output.ensures.items c.write_answer-written.ensures.answer)

pub returns-clause-alone : goal.returns-clause-alone
returns-clause-alone g c = λ none.
    subst (λ r. IfOk r (λ o. Prints c.args.command c.args.text.items o.items)) (sym c.in_memory.ensures)
    (shown_in_memory (λ o. o.items) IsMeasureOf c.args.command c.args.text.items c.new-output.result.items c.write_answer-written.new.writer
    c.write_answer-written.result c.new-output.ensures.items (c.write_answer-written.ensures.alone none))

pub returns-clause-refused : goal.returns-clause-refused
returns-clause-refused g c =
    subst (λ r. IfErr r (RefusesBy IsClosedMapOf c.args.command c.args.text.items)) (sym c.in_memory.ensures)
    (refused_in_memory IsClosedMapOf c.args.command c.args.text.items (Some c.new-output.result.items)
    (Some c.write_answer-written.new.writer.items) c.write_answer-written.new.writer c.write_answer-written.result
    c.write_answer-written.ensures.answer)

pub returns-clause-refused_alone : goal.returns-clause-refused_alone
returns-clause-refused_alone g c = λ none.
    subst (λ r. IfErr r (Refuses c.args.command c.args.text.items)) (sym c.in_memory.ensures)
    (refused_in_memory IsMeasureOf c.args.command c.args.text.items (Some c.new-output.result.items)
    (Some c.write_answer-written.new.writer.items) c.write_answer-written.new.writer c.write_answer-written.result
    (c.write_answer-written.ensures.alone none))

pub returns-clause-unread : goal.returns-clause-unread
returns-clause-unread g c =
    rw c.in_memory.ensures
    (never_unread c.write_answer-written.new.writer c.write_answer-written.result c.write_answer-written.ensures.unread)

pub returns-clause-unwritten : goal.returns-clause-unwritten
returns-clause-unwritten g c = rw c.in_memory.ensures (never_unwritten c.write_answer-written.new.writer c.write_answer-written.result)
