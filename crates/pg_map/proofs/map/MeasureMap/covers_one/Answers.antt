use Rattle.pg_map.proofs.Common.{◌≡◌, ◌<◌, get_or, ◌∙◌, arith, below_more, get_or_default, CoversFront, misses_not, measure_at}
use Rattle.pg_map.proofs.map.MeasureMap.covers_one.Goals as goal

pub loop-w-preserved : goal.loop-w-preserved
loop-w-preserved c =
    let q : c.w.inside.0 ≡ get_or c.args.successors.now c.loop-w.w-index 0 = c.w.view_is
    ∙ (c.w-item.is ∙ get_or_default c.args.successors.now c.loop-w.w-index _ 0 c.loop-w-test.true) in
    below_more (λ k. CoversFront c.args.strict c.args.front (measure_at c.args.self.now.measures c.args.v)
    (measure_at c.args.self.now.measures (get_or c.args.successors.now k 0)) → ⊥) c.loop-w.w-index c.loop-w.invariant
    (λ h. misses_not c.args.strict c.args.front _ _ c.if-covers.ensures (rw q h))

pub returns : goal.returns
returns c = (
  λ t. (cc),
  λ a.
      let l : a.0 < c.loop-w.w-index = let t = c.loop-w-test.false in let h = a.2 in omega arith in
      let e : get_or c.args.successors.now a.0 0 ≡ a.1 = get_or_default c.args.successors.now a.0 0 a.1 a.2 ∙ a.3 in
      absurd (c.loop-w.invariant a.0 l (rw e a.4)),
)
