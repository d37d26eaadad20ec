use Rattle.std.proofs.Common.{inl, inr}
use Rattle.pg_cli_request.proofs.Refused.{refused_by}
use Rattle.pg_cli_request.proofs.answering.carry_out.Goals as goal

pub returns-in_err-given-clause-refused : goal.returns-in_err-given-clause-refused
returns-in_err-given-clause-refused g c =
    refused_by _ c.from_residual-in_err-given.result c.in_err-given.field-0.0 c.from_residual-in_err-given.ensures.1 (inr (inl c.in_err-given.ensures.refused))
