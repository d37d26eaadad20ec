use Rattle.pg_check.proofs.Common.{rules, ◌≡◌, inl, inr, arith, sym, subst, cases_lt, winner, Counts, all_passed}
use Rattle.pg_check.proofs.Leaving.{least_leaving}
use Rattle.pg_check.proofs.edges.first_leaving.Goals as goal

pub winner-requires : goal.winner-requires
winner-requires c =
    let counts = (c.counted-w-items.ensures.counted c.w-item.result).0 (c.loop-w.w-index, c.loop-w-test.true, sym c.w-item.is) in
    let lt = c.len-number-end.ensures.game.in_range c.loop-number.number c.w-item.result counts.0 in
    omega (arith, lt, c.requires)

pub returns-then-ne-clause-some : goal.returns-then-ne-clause-some
returns-then-ne-clause-some c =
    least_leaving c.args.game.now c.args.solution.now c.counted-w-items.result.now c.loop-number.number c.w-item.result c.loop-w.w-index
    c.counted-w-items.ensures.counted (c.counted-w-items.ensures.rising c.len-number-end.ensures.game)
    (λ x y. c.loop-number.invariant x y) c.loop-w.invariant c.loop-w-test.true (sym c.w-item.is) (search rules)

pub loop-number-preserved : goal.loop-number-preserved
loop-number-preserved c v w lt counts = elim (cases_lt v c.loop-number.number) [
  | inl below ↦ c.loop-number.invariant v w below counts
  | inr past ↦
      let same : v ≡ c.loop-number.number = omega arith in
      let counts' : Counts c.args.game.now c.args.solution.now c.loop-number.number w =
      subst (λ x. Counts c.args.game.now c.args.solution.now x w) same counts in
      subst (λ x. winner c.args.solution.now w ≡ winner c.args.solution.now x) (sym same)
      (all_passed (λ u. winner c.args.solution.now u ≡ winner c.args.solution.now c.loop-number.number) c.counted-w-items.result.now c.loop-w.w-index w
      c.loop-w-test.false c.loop-w.invariant ((c.counted-w-items.ensures.counted w).1 counts'))
]
