use Rattle.std.proofs.Common.{rules}
use Rattle.pg_cli_request.proofs.Refused.{same_refusal}
use Rattle.pg_cli_request.proofs.named.name_outputs.Goals as goal

pub returns-clause-refused : goal.returns-clause-refused
returns-clause-refused c =
    rw c.in-Some.is (c.fault_of.ensures c.args.text.items (same_refusal _ _ _ _ _ c.deref.ensures.value (search rules) c.in-Err.ensures.refused))
