use Rattle.pg_cli_request.proofs.Refused.{refused_apart}
use Rattle.pg_cli_request.proofs.answering.answer_in_memory.Goals as goal

pub returns-in-Some-clause-answer : goal.returns-in-Some-clause-answer
returns-in-Some-clause-answer g c = rw c.in-Some.is c.answer.ensures.answer

pub returns-in-Some-clause-refused : goal.returns-in-Some-clause-refused
returns-in-Some-clause-refused g c =
    refused_apart c.args.programs _ c.args.command c.args.text.items c.answer.result c.in-Some.is c.requires.limit c.answer.ensures.unread
    c.answer.ensures.refused
