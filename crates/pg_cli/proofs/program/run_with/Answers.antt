use Rattle.std.specs.Prelude.{◌≡◌, All, refl}
use Rattle.pg_cli_command.specs.Measuring.{IsClosedMapOf, IsMeasureOf}
use Rattle.pg_cli_command.proofs.MapKinds.{known_too}
use Rattle.pg_cli.specs.Mirrors.Finding.{IsFoundIf}
use Rattle.pg_cli.specs.Linked.{IsLeastOverTold}
use Rattle.pg_cli.specs.declared.over_links.Rounds.TheVariants.{Any}
use Rattle.pg_cli.proofs.Finding.{found_closed, found_least, told_too}
use Rattle.pg_cli.proofs.program.run_with.Goals as goal

pub returns-clause-answer : goal.returns-clause-answer
returns-clause-answer g c =
    let honest = All g.L.Link.is_honest c.args.links.now in
    known_too (IsFoundIf honest) IsClosedMapOf (found_closed honest) c.args.command (g.R.Read.remaining c.args.reader.now)
    (g.W.Write.contents c.args.writer.now) (g.W.Write.contents c.run_by.new.writer) c.run_by.result c.run_by.ensures.answer

pub returns-clause-honest : goal.returns-clause-honest
returns-clause-honest g c = λ are.
    let honest = All g.L.Link.is_honest c.args.links.now in
    known_too (IsFoundIf honest) IsMeasureOf (found_least honest are) c.args.command (g.R.Read.remaining c.args.reader.now)
    (g.W.Write.contents c.args.writer.now) (g.W.Write.contents c.run_by.new.writer) c.run_by.result c.run_by.ensures.answer

pub returns-clause-told : goal.returns-clause-told
returns-clause-told g c = λ workers is.
    let told = IsLeastOverTold g.L.Link.told c.args.links.now in
    told_too (λ game map. Any ≡ Any → told game map) told (λ game map found. found refl) (g.R.Read.remaining c.args.reader.now)
    (g.W.Write.contents c.args.writer.now) (g.W.Write.contents c.run_by.new.writer) c.run_by.result (c.run_by.ensures.measured workers is)
