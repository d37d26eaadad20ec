use Rattle.pg_coord_rounds.proofs.Common.{on_ok_weaker, refl}
use Rattle.pg_coord_rounds.proofs.Replying.{tells_first}
use Rattle.pg_coord_rounds.proofs.round.set_up_one.Goals as goal

pub returns-in-Err-Failed-clause-in_step : goal.returns-in-Err-Failed-clause-in_step
returns-in-Err-Failed-clause-in_step g c = on_ok_weaker c.mend.result (λ mended ho. mended (c.set_up.ensures.honest ho)) c.mend.ensures.in_step

pub returns-in-Ok-clause-told : goal.returns-in-Ok-clause-told
returns-in-Ok-clause-told g c = λ rs is replies.
    let after = c.in-Ok.ensures.told _ is in
    tells_first c.args.task.now c.args.worker rs _ (g.L.Link.told c.set_up.new.link) after.1.0 replies refl c.requires after.1.1
