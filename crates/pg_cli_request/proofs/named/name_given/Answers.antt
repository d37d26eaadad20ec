use Rattle.std.proofs.Common.{refl}
use Rattle.std.specs.Option.{option_map}
use Rattle.pg_cli_request.specs.Mirrors.Givens.{input_of}
use Rattle.pg_cli_request.proofs.Given.{parted_and_named}
use Rattle.pg_cli_request.proofs.Refused.{unnamed}
use Rattle.pg_cli_request.proofs.named.name_given.Goals as goal

pub returns-in-Verify-Some-clause-named : goal.returns-in-Verify-Some-clause-named
returns-in-Verify-Some-clause-named c =
    let verify = c.in-Verify-Some in
    parted_and_named input_of (option_map (λ o. o.now) c.args.outs) c.args.command (input_of c.args.given) verify.outs.now
    c.in-Whole.text.items verify.workers-0 verify.by_place verify.environment c.name_parted.result (rw verify.is-1 refl) verify.is-0 (rw c.in-Whole.is refl)
    (rw (← c.deref.ensures.value) c.name_parted.ensures.named)

pub returns-in-Verify-Some-clause-refused : goal.returns-in-Verify-Some-clause-refused
returns-in-Verify-Some-clause-refused c =
    let verify = c.in-Verify-Some in
    unnamed (option_map (λ o. o.now) c.args.outs) c.args.command (input_of c.args.given) verify.outs.now c.in-Whole.text.items verify.workers-0 verify.by_place
    verify.environment c.name_parted.result (rw verify.is-1 refl) verify.is-0 (rw c.in-Whole.is refl)
    (rw (← c.deref.ensures.value) c.name_parted.ensures.refused)
