use Rattle.pg_coord_rounds.proofs.Common.{refl, on_ok_weaker}
use Rattle.pg_coord_rounds.proofs.round.query_one.Goals as goal

pub returns-in-Err-Failed-clause-in_step : goal.returns-in-Err-Failed-clause-in_step
returns-in-Err-Failed-clause-in_step g c =
    on_ok_weaker c.mend.result (λ mended ho s. mended (c.query.ensures.honest ho) c.args.coordinator.now.map) c.mend.ensures.in_step

pub returns-then-not-state-clause-told : goal.returns-then-not-state-clause-told
returns-then-not-state-clause-told g c = λ rs h. (
  record { all = h.all; told_is = h.told_is; replies = h.replies; received_is = h.received_is; kind = h.kind },
  λ used. absurd (let unused = c.if-not-state.true in cc),
)

pub returns-in-Ok-clause-told : goal.returns-in-Ok-clause-told
returns-in-Ok-clause-told g c = λ rs h.
    let after = c.in-Ok.ensures.told _ h.told_is in
    (record { all = h.all; told_is = after.1; replies = h.replies; received_is = h.received_is; kind = h.kind }, λ used. refl)

pub returns-in-Err-Failed-clause-told : goal.returns-in-Err-Failed-clause-told
returns-in-Err-Failed-clause-told g c = λ rs h.
    absurd ((c.in-Err-Failed.ensures.told _ h.told_is).0 (let f = c.in-Err-Failed.field-0-is in cc))
