use Rattle.pg_cli_command.proofs.Common.{sym, subst, IfOk, IfErr, CliFault, ◌⊎◌, ◌≡◌}
use Rattle.pg_cli_command.specs.Parts.{AreApart}
use Rattle.pg_cli_command.specs.Satisfying.{IsJudgedOn, RefusesJudge}
use Rattle.pg_cli_command.specs.declared.fault.CliFault.TheVariants.{OutOfMemory}
use Rattle.pg_cli_command.proofs.Outcomes.{shown_in_memory, refused_in_memory}
use Rattle.pg_cli_command.proofs.program.verify_formula_texts.Goals as goal

pub returns-clause-answer : goal.returns-clause-answer
returns-clause-answer c =
    subst (λ r. IfOk r (λ o. IsJudgedOn (AreApart c.args.first.items c.args.second.items) c.args.environment o.items)) (sym c.in_memory.ensures)
    (shown_in_memory _ _ (λ o. o.items) c.new-output.result.items c.print-written.new.writer _ _ c.new-output.ensures.items c.verify_formula.ensures.answer
    c.print-written.ensures.written)

pub returns-clause-refused : goal.returns-clause-refused
returns-clause-refused c =
    subst (λ r. IfErr r (λ fault. (fault ≡ OutOfMemory) ⊎ RefusesJudge (AreApart c.args.first.items c.args.second.items) fault)) (sym c.in_memory.ensures)
    (refused_in_memory _ c.print-written.new.writer _ _ c.verify_formula.ensures.refused c.print-written.ensures.refused)
