use Rattle.std.proofs.Common.{refl}
use Rattle.pg_cli_request.proofs.Refused.{refused_by}
use Rattle.pg_cli_request.proofs.answering.write_input.Goals as goal

pub returns-in_ok-write_pair-in-Apart : goal.returns-in_ok-write_pair-in-Apart
returns-in_ok-write_pair-in-Apart g c = rw c.in-Apart.is c.in_ok-write_pair-in-Apart.ensures

pub returns-in_err-write_pair-in-Apart-clause-untouched : goal.returns-in_err-write_pair-in-Apart-clause-untouched
returns-in_err-write_pair-in-Apart-clause-untouched g c =
    refused_by _ c.from_residual.result _ c.from_residual.ensures.1
    (λ other. c.in_err-write_pair-in-Apart.ensures.untouched (λ write. other (rw write refl)))
