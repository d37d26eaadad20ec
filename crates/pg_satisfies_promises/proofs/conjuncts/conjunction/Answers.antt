use Rattle.std.proofs.Common.{ℕ, ◌<◌, ◌-◌, List, length, get_or, take, drop, arith, rules}
use Rattle.std.specs.Prelude.{All}
use Rattle.std.proofs.lemmas.List.Elements.{All-get_or, All-take, All-drop}
use Rattle.std.proofs.lemmas.Result.{IfOk-weaker}
use Rattle.pg_ltl.proofs.Nodes.{length-extends}
use Rattle.pg_satisfies_promises.proofs.NodeLists.{conjunction_first, conjunction_more, conjunction_none}
use Rattle.pg_satisfies_promises.proofs.conjuncts.conjunction.Goals as goal

pub returns-then-is_empty : goal.returns-then-is_empty
returns-then-is_empty c =
    IfOk-weaker c.put.result _ _
    (λ place adds. conjunction_none c.args.nodes.now.items c.put.new.nodes.items c.args.conjuncts.now place adds) c.put.ensures

pub put-requires-in-loop-conjunct-clause-ordered : goal.put-requires-in-loop-conjunct-clause-ordered
put-requires-in-loop-conjunct-clause-ordered c = c.loop-conjunct.invariant.ordered

-- what holds for all conjuncts holds for one behind the first
behind_first : (P : ℕ → Type 0) (xs : List ℕ) (n i : ℕ) → i < length (take n (drop 1 xs)) → All P xs → P (get_or (take n (drop 1 xs)) i 0)
behind_first P xs n i lt all = All-get_or P (take n (drop 1 xs)) i 0 lt (All-take P n (drop 1 xs) (All-drop P 1 xs all))

pub put-requires-in-loop-conjunct-clause-reach : goal.put-requires-in-loop-conjunct-clause-reach
put-requires-in-loop-conjunct-clause-reach c =
    let long = length-extends c.args.nodes.now.items c.loop-conjunct.nodes.items c.loop-conjunct.invariant.grown in
    let below = behind_first (λ p. p < length c.args.nodes.now.items) c.args.conjuncts.now (length c.args.conjuncts.now - 1)
    c.loop-conjunct.conjunct-index c.loop-conjunct-test.true c.requires.conjuncts in
    omega (arith, long, below, c.loop-conjunct.invariant.below)

pub loop-conjunct-init : goal.loop-conjunct-init
loop-conjunct-init c =
    let some : 0 < length c.args.conjuncts.now = search rules in
    conjunction_first c.args.nodes.now.items c.args.conjuncts.now (get_or c.args.conjuncts.now 0 0) c.requires.ordered
    (λ P all. All-get_or P c.args.conjuncts.now 0 0 some all) c.requires.conjuncts

pub loop-conjunct-preserved : goal.loop-conjunct-preserved
loop-conjunct-preserved c =
    conjunction_more c.args.nodes.now.items c.loop-conjunct.nodes.items c.put-in-loop-conjunct.new.nodes.items c.args.conjuncts.now
    c.loop-conjunct.whole _ c.in_ok-whole.whole c.loop-conjunct.invariant c.in_ok-whole.ensures
    (λ P all. behind_first P c.args.conjuncts.now (length c.args.conjuncts.now - 1) c.loop-conjunct.conjunct-index c.loop-conjunct-test.true all)

pub returns : goal.returns
returns c = c.loop-conjunct.invariant
