use Rattle.std.proofs.Common.{List, subst, sym}
use Rattle.std.specs.Prelude.{All, Contains}
use Rattle.std.proofs.lemmas.List.Elements.{All-push}
use Rattle.pg_satisfies.proofs.cone.kept.Goals as goal

pub returns : goal.returns
returns g c = λ all is before.
    subst (All (Contains all)) (sym c.in_ok-push.ensures.items) (All-push (Contains all) c.args.found.items c.args.item before is)
