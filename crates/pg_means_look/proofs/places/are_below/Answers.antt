use Rattle.std.proofs.Common.{◌<◌, arith, subst}
use Rattle.std.specs.Prelude.{All}
use Rattle.std.proofs.lemmas.List.{take_all}
use Rattle.std.proofs.lemmas.List.Elements.{All-more}
use Rattle.pg_means_look.proofs.places.are_below.Goals as goal

pub loop-place-preserved : goal.loop-place-preserved
loop-place-preserved c =
    All-more (λ x. x < c.args.bound) c.args.places.now c.loop-place.place-index 0 (omega arith) c.loop-place.invariant (omega arith)

pub returns : goal.returns
returns c =
    subst (All (λ x. x < c.args.bound)) (take_all c.loop-place.place-index c.args.places.now (omega arith)) c.loop-place.invariant
