use Rattle.std.proofs.Common.{ℕ, List, ◌<◌, arith, subst}
use Rattle.std.specs.Prelude.{All}
use Rattle.std.specs.declared.vec.Vec.{Vec}
use Rattle.std.specs.declared.alloc.Global.{Global}
use Rattle.std.proofs.lemmas.List.{take_all}
use Rattle.std.proofs.lemmas.List.Elements.{All-more}
use Rattle.pg_means_look.proofs.look.are_sets_below.Goals as goal

pub loop-set-preserved : goal.loop-set-preserved
loop-set-preserved c =
    let P = λ (set : Vec ℕ Global). All (λ place. place < c.args.bound) set.items in
    let here = subst (λ (xs : List ℕ). All (λ place. place < c.args.bound) xs) c.deref.ensures.value c.if-not-are_below.ensures in
    All-more P c.args.sets.now c.loop-set.set-index c.set-item.result c.loop-set-test.true c.loop-set.invariant (subst P c.set-item.is here)

pub returns : goal.returns
returns c =
    subst (All (λ (set : Vec ℕ Global). All (λ place. place < c.args.bound) set.items))
    (take_all c.loop-set.set-index c.args.sets.now (omega arith)) c.loop-set.invariant
