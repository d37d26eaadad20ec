use Rattle.pg_map.proofs.Common.{◌≡◌, ◌<◌, ℕ, get_or, ◌∙◌, subst, arith, refl, get_or_default, CoversFront, misses_not, measure_at}
use Rattle.pg_map.proofs.map.MeasureMap.covers_each.Goals as goal

pub returns-then-not-covers : goal.returns-then-not-covers
returns-then-not-covers c =
    let q : c.w.inside.0 ≡ get_or c.args.successors.now c.loop-w.w-index 0 = c.w.view_is
    ∙ (c.w-item.is ∙ get_or_default c.args.successors.now c.loop-w.w-index _ 0 c.loop-w-test.true) in
    (λ t. (cc), λ a. absurd (misses_not c.args.strict c.args.front _ _ c.if-not-covers.ensures (rw q (a c.loop-w.w-index 0 c.loop-w-test.true))))

pub returns : goal.returns
returns c = (
  λ t i d h.
      let l : i < c.loop-w.w-index = let t = c.loop-w-test.false in omega arith in
      subst (λ (u : ℕ). CoversFront c.args.strict c.args.front (measure_at c.args.self.now.measures c.args.v)
      (measure_at c.args.self.now.measures u)) (get_or_default c.args.successors.now i 0 d h) (c.loop-w.invariant i l),
  λ a. refl,
)
