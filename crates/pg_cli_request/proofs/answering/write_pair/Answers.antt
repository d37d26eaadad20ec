use Rattle.pg_cli_request.proofs.Given.{made_and_written}
use Rattle.pg_cli_request.specs.Inputs.{PrintsOfPair}
use Rattle.pg_cli_request.proofs.answering.write_pair.Goals as goal

pub returns-in_ok-answer-in-Check-clause-written : goal.returns-in_ok-answer-in-Check-clause-written
returns-in_ok-answer-in-Check-clause-written g c =
    made_and_written (PrintsOfPair c.args.pair c.args.first.items c.args.second.items) _ _ c.in_ok-answer-in-Check.answer.items c.write_whole.result
    (rw c.in-Check.is c.in_ok-answer-in-Check.ensures.answer) (rw (← c.deref.ensures.value) c.write_whole.ensures.written)
