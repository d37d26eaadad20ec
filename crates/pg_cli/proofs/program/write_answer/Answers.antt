use Rattle.pg_cli.proofs.program.write_answer.Goals as goal

pub returns-clause-answer : goal.returns-clause-answer
returns-clause-answer g c = c.answer_over.ensures.honest (λ k link lt. tt)
