use Rattle.std.proofs.Common.{arith}
use Rattle.pg_wire.proofs.Skip.{checked_found, checked_none}
use Rattle.pg_wire.proofs.reading.body_of.Goals as goal

pub returns-in-Ok-clause-found : goal.returns-in-Ok-clause-found
returns-in-Ok-clause-found c =
    checked_found c.args.bytes.now c.in_ok-rest.rest.now (λ i. omega (arith, c.type_inv.bytes i)) c.in_ok-rest.ensures.found c.in-Ok.ensures.body

pub returns-in-Err-clause-none : goal.returns-in-Err-clause-none
returns-in-Err-clause-none c = λ f s. checked_none c.args.bytes.now c.in_ok-rest.rest.now _ f c.in_ok-rest.ensures.found c.in-Err.ensures.fault s
