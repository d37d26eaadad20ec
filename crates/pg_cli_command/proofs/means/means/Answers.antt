use Rattle.pg_cli_command.proofs.Common.{Fails, parting_of}
use Rattle.pg_cli_command.specs.Faults.{compare_fault}
use Rattle.pg_cli_command.specs.Meaning.{RefusesMeans}
use Rattle.pg_cli_command.proofs.Meant.{compare_refused}
use Rattle.pg_cli_command.proofs.Refusing.{refused_by}
use Rattle.pg_cli_command.proofs.means.means.Goals as goal

pub returns-in_err-compare-in-Some-clause-refused : goal.returns-in_err-compare-in-Some-clause-refused
returns-in_err-compare-in-Some-clause-refused c =
    let Parts = parting_of c.args.texts in
    let fault = c.in_err-compare-in-Some.field-0.0 in
    refused_by (Fails (RefusesMeans Parts)) c.from_residual.result (compare_fault fault) c.from_residual.ensures.1
    (compare_refused Parts c.in-Some.first.now c.in-Some.second.now fault c.in-Some.ensures.parted c.in_err-compare-in-Some.ensures.refused)
