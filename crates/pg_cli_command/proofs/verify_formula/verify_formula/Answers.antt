use Rattle.pg_cli_command.proofs.Common.{Fails, parting_of}
use Rattle.pg_cli_command.specs.Faults.{satisfy_fault}
use Rattle.pg_cli_command.specs.Satisfying.{RefusesJudge}
use Rattle.pg_cli_command.proofs.Meant.{judge_refused}
use Rattle.pg_cli_command.proofs.Refusing.{refused_by}
use Rattle.pg_cli_command.proofs.verify_formula.verify_formula.Goals as goal

pub returns-in_err-verdict-in-Some-clause-refused : goal.returns-in_err-verdict-in-Some-clause-refused
returns-in_err-verdict-in-Some-clause-refused c =
    let Parts = parting_of c.args.texts in
    let fault = c.in_err-verdict-in-Some.field-0.0 in
    refused_by (Fails (RefusesJudge Parts)) c.from_residual.result (satisfy_fault fault)
    c.from_residual.ensures.1
    (judge_refused Parts c.in-Some.first.now c.in-Some.second.now fault c.in-Some.ensures.parted c.in_err-verdict-in-Some.ensures.refused)
