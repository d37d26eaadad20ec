use Rattle.std.proofs.Common.{ℕ, get_or, sym, subst}
use Rattle.std.specs.Prelude.{All, Contains}
use Rattle.std.specs.declared.vec.Vec.{Vec}
use Rattle.std.specs.declared.alloc.Global.{Global}
use Rattle.std.proofs.lemmas.List.Elements.{All-push, Contains-get_or}
use Rattle.pg_satisfies_promises.proofs.conjuncts.related.Goals as goal
use Rattle.pg_satisfies_promises.proofs.conjuncts.related.Goals.{then-contains+in_ok-push, else-contains}

pub loop-conjunct-preserved : goal.loop-conjunct-preserved
loop-conjunct-preserved c =
    let all = c.args.conjuncts.now in
    let i = c.loop-conjunct.conjunct-index in
    let P = λ (few : Vec ℕ Global). All (Contains all) few.items in
    elim c.if-contains.branch [
      | then-contains+in_ok-push w ↦
          subst P (sym w.few-is)
          (subst (All (Contains all)) (sym w.in_ok-push.ensures.items)
          (All-push (Contains all) c.loop-conjunct.few.items (get_or all i 0) c.loop-conjunct.invariant
          (Contains-get_or all i 0 c.loop-conjunct-test.true)))
      | else-contains w ↦ subst P (sym w.few-is) c.loop-conjunct.invariant
    ]
