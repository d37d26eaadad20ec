use Rattle.pg_check.proofs.Common.{rules, ◌≡◌, ◌<◌, [], ◌∷◌, ◌++◌, length, get_or, reverse, ap, sym, subst, ◌∙◌, arith, get_or_read}
use Rattle.pg_check.proofs.Common.{reverse-append, IsSimpleCycle, IsTrail}
use Rattle.pg_check.proofs.Trails.{way_steps, way_ends}
use Rattle.pg_check.proofs.cycle.cycle_through.Goals as goal

pub loop-place-preserved : goal.loop-place-preserved
loop-place-preserved c =
    let trail = c.in-Some.trail in
    let t : IsTrail c.args.game.now c.args.solution.now c.args.v trail.reached.items trail.before.items trail.end = search rules in
    let w = c.loop-place.invariant in
    let place = c.loop-place.place in
    let inside : place < length trail.reached.items = w.inside in
    let back = reverse c.loop-place.cycle.items in
    let here = get_or_read trail.reached.items _ _ inside c.index.ensures 0 in
    let before = get_or_read trail.before.items _ _ (let e = t.as_long in omega arith) c.index-in-loop-place.ensures 0 in
    let pushed : c.push.new.self.items ≡ c.loop-place.cycle.items ++ (c.index.result.now ∷ []) = search rules in
    let e : reverse c.push.new.self.items ≡ get_or trail.reached.items place 0 ∷ back =
    ap reverse pushed ∙ (reverse-append c.loop-place.cycle.items (c.index.result.now ∷ []) ∙ ap (λ x. x ∷ back) here) in
    rw (e, before) (way_steps c.args.game.now c.args.solution.now c.args.v trail.reached.items trail.before.items trail.end place back t
    c.loop-place-test.true w)

pub returns-clause-some : goal.returns-clause-some
returns-clause-some c =
    let trail = c.in-Some.trail in
    let t : IsTrail c.args.game.now c.args.solution.now c.args.v trail.reached.items trail.before.items trail.end = search rules in
    let back = reverse c.loop-place.cycle.items in
    let start : c.loop-place.place ≡ 0 = omega (arith, c.loop-place-test.false) in
    let pushed : c.push-2.new.self.items ≡ c.loop-place.cycle.items ++ (c.args.v ∷ []) = search rules in
    let turned : c.reverse.new.self.items ≡ reverse c.push-2.new.self.items = search rules in
    let e : c.reverse.new.self.items ≡ c.args.v ∷ back =
    turned ∙ (ap reverse pushed ∙ reverse-append c.loop-place.cycle.items (c.args.v ∷ [])) in
    subst (IsSimpleCycle c.args.game.now c.args.solution.now c.args.v) (sym e)
    (way_ends c.args.game.now c.args.solution.now c.args.v trail.reached.items trail.before.items trail.end c.loop-place.place back t start
    c.loop-place.invariant)
