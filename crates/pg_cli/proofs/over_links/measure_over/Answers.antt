use Rattle.pg_cli.proofs.Finding.{over_told}
use Rattle.pg_cli.proofs.over_links.measure_over.Goals as goal

pub returns-in-Ok-clause-told : goal.returns-in-Ok-clause-told
returns-in-Ok-clause-told g c =
    let e = c.in-Ok.ensures in
    over_told g.L.Link.told c.args.links.now c.args.game.now c.in-Ok.solved.map c.in_ok-cut.cut c.in-Ok.solved.rounds
    (record { bounds = e.bounds; fits = e.map; closed = e.closed }) c.in_ok-cut.ensures e.rounds.0 e.told
