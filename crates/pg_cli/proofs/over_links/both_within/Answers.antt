use Rattle.std.proofs.Common.{List, subst}
use Rattle.std.specs.Prelude.{All}
use Rattle.pg_arena.specs.Games.{GameVertex, dual}
use Rattle.pg_cli.specs.Mirrors.Finding.{IsFoundIf}
use Rattle.pg_cli.proofs.Finding.{kept_found}
use Rattle.pg_cli.proofs.over_links.both_within.Goals as goal

pub returns-in-Some-2-clause-of_dual : goal.returns-in-Some-2-clause-of_dual
returns-in-Some-2-clause-of_dual g c =
    let before = All g.L.Link.is_honest c.args.links.now in
    let later = All g.L.Link.is_honest c.measure_within.new.links in
    let found = rw c.in-Some-2.is at c.in_ok-of_dual.ensures.found in
    kept_found before later (dual c.args.game.now) c.in-Some-2.of_dual c.in_ok-of_game.ensures.honest
    (subst (λ (d : List GameVertex). IsFoundIf later d c.in-Some-2.of_dual) c.in-Ok.ensures.dual found)
