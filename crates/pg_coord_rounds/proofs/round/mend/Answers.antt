use Rattle.std.proofs.Common.{◌∙◌, refl, arith}
use Rattle.pg_coord_rounds.proofs.round.mend.Goals as goal

pub returns-in-Ok-clause-told : goal.returns-in-Ok-clause-told
returns-in-Ok-clause-told g c = λ left is dense.
    let still = c.loop-state.invariant.told_still left is in
    let after = c.in-Ok.ensures.told left still.0 in
    (after.1.0, after.1.1, record { again = λ lt. (refl, omega (arith, still.2)); given_up = λ le. absurd (omega (arith, still.2)) })

pub returns-clause-told : goal.returns-clause-told
returns-clause-told g c = λ left is dense.
    let still = c.loop-state.invariant.told_still left is in
    (still.0, still.1 ∙ dense, record { again = λ lt. absurd (omega (arith, still.2)); given_up = λ le. c.loop-state.invariant.unused })
