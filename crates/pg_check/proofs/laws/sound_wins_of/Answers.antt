use Rattle.std.proofs.Common.{refl}
use Rattle.pg_check.proofs.Wins.{keeps_to, wins}
use Rattle.pg_check.proofs.laws.sound_wins_of.Goals as goal

pub returns : goal.returns
returns g c solution sound follows =
    let game = g.P.Play.game c.args.play.now in
    let play = g.P.Play.vertex c.args.play.now in
    (keeps_to game solution c.requires sound play follows, (wins game solution c.requires sound (play 0) play refl follows).1)
