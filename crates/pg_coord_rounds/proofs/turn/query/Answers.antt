use Rattle.std.proofs.Common.{◌≡◌, Some}
use Rattle.pg_coord_rounds.proofs.turn.query.Goals as goal
use Rattle.pg_coord_rounds.proofs.turn.query.Goals.{then-state+in_ok-vertices+in_ok-send_values, else-state+in_ok-send_values-2}

pub returns-clause-told : goal.returns-clause-told
returns-clause-told g c = λ left is.
    let told = g.L.Link.told in
    let sent : told c.if-state.link ≡ Some left =
    elim c.if-state.branch [
      | then-state+in_ok-vertices+in_ok-send_values w ↦ rw w.link-is (w.in_ok-send_values.ensures.told left is).1
      | else-state+in_ok-send_values-2 w ↦ rw w.link-is (w.in_ok-send_values-2.ensures.told left is).1
    ] in
    c.send_frame.ensures.told left sent
