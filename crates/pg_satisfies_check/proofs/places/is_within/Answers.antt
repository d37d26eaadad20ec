use Rattle.std.proofs.Common.{arith, subst}
use Rattle.std.specs.Prelude.{All, Contains}
use Rattle.std.proofs.lemmas.List.{take_all}
use Rattle.std.proofs.lemmas.List.Elements.{All-more}
use Rattle.pg_satisfies_check.proofs.places.is_within.Goals as goal

pub loop-place-preserved : goal.loop-place-preserved
loop-place-preserved c =
    All-more (Contains c.args.many.now) c.args.few.now c.loop-place.place-index 0 (omega arith) c.loop-place.invariant c.if-not-has.ensures

pub returns : goal.returns
returns c = subst (All (Contains c.args.many.now)) (take_all c.loop-place.place-index c.args.few.now (omega arith)) c.loop-place.invariant
