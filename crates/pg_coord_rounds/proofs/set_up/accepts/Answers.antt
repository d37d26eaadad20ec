use Rattle.pg_coord_rounds.proofs.Taking.{takes_next, answers_set_up, breaks_set_up}
use Rattle.pg_coord_rounds.proofs.set_up.accepts.Goals as goal

pub returns-in-Ok-clause-told : goal.returns-in-Ok-clause-told
returns-in-Ok-clause-told g c = λ next left is.
    let told = g.L.Link.told in
    let taken = takes_next (told c.args.link.now) (told c.receive_frame.new.link) _ next left c.in-Ok.ensures.told is in
    let answer = c.answer.ensures in
    answers_set_up c.in-Ok.frame c.answer.result next left (told c.receive_frame.new.link) taken.1 (taken.0 c.in-Ok.frame taken.1).1.1
    answer.accepted answer.refused answer.neither

pub returns-in-Err-clause-told : goal.returns-in-Err-clause-told
returns-in-Err-clause-told g c = λ next left is.
    let told = g.L.Link.told in
    breaks_set_up _ next left (told c.receive_frame.new.link) (takes_next (told c.args.link.now) (told c.receive_frame.new.link) _ next left
    c.in-Err.ensures.told is)
