use Rattle.pg_cli.proofs.program.verify_texts.Goals as goal

pub returns-then-environment-clause-answer : goal.returns-then-environment-clause-answer
returns-then-environment-clause-answer c = rw c.if-environment.true c.refute_texts.ensures.answer

pub returns-clause-answer : goal.returns-clause-answer
returns-clause-answer c = rw c.if-environment.false c.verify_texts.ensures.answer
