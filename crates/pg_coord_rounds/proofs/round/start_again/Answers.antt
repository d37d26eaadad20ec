use Rattle.std.proofs.Common.{Ok}
use Rattle.pg_coord_rounds.proofs.Taking.{restarted}
use Rattle.pg_coord_rounds.proofs.round.start_again.Goals as goal

pub returns-in-Ok-clause-told : goal.returns-in-Ok-clause-told
returns-in-Ok-clause-told g c = λ left is.
    let told = g.L.Link.told in
    let anew = restarted (told c.args.link.now) (told c.restart.new.self) (Ok c.in-Ok.field-0) left c.in-Ok.ensures.told is in
    c.set_up.ensures.told left anew.1
