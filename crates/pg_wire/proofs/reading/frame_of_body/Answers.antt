use Rattle.pg_wire.proofs.Common.{sym, subst, ◌∙◌, arith, refl, Frame, FieldFault, Result, Gives}
use Rattle.pg_wire.proofs.Lengths.{kind_and_after}
use Rattle.pg_wire.proofs.Bodies.{body_found}
use Rattle.pg_wire.proofs.reading.frame_of_body.Goals as goal

pub returns-in-len1-up : goal.returns-in-len1-up
returns-in-len1-up c =
    let p = c.in_ok-check_body.ensures.body in
    let found = body_found c.args.bytes.now p.0 (λ i. omega (arith, c.type_inv.bytes i)) p.1 in
    subst (λ (r : Result Frame FieldFault). Gives (λ x. x) c.frame.result r) (sym p.1)
    (c.frame.ensures p.0 found.1 (kind_and_after c.args.bytes.now _ c.in-len1-up.len_at_least refl ∙ found.0))
