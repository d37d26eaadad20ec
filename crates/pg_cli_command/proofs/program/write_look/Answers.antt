use Rattle.pg_cli_command.proofs.Common.{ap}
use Rattle.std.specs.Prelude.{true, false}
use Rattle.pg_cli_words.specs.declared.command.Command.TheVariants.{Verify}
use Rattle.pg_cli_command.proofs.Outcomes.{answered}
use Rattle.pg_cli_command.proofs.program.write_look.Goals as goal

pub returns-then-environment-clause-answer : goal.returns-then-environment-clause-answer
returns-then-environment-clause-answer g c = λ workers.
    answered _ _ _ (Verify workers c.args.by_place true) _ _ _ _ _ c.requires.limit (ap (Verify workers c.args.by_place) c.if-environment.true)
    c.refute.ensures.answer c.refute.ensures.refused c.print.ensures.written c.print.ensures.refused

pub returns-clause-answer : goal.returns-clause-answer
returns-clause-answer g c = λ workers.
    answered _ _ _ (Verify workers c.args.by_place false) _ _ _ _ _ c.requires.limit (ap (Verify workers c.args.by_place) c.if-environment.false)
    c.verify.ensures.answer c.verify.ensures.refused c.print-2.ensures.written c.print-2.ensures.refused
