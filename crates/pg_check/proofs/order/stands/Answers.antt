use Rattle.pg_check.proofs.Common.{rules, ◌≡◌, ℕ, ◌%◌, ◌<◌, ◌≤◌, List, get_or, arith, subst, sym, GameVertex, Answer, all_passed, Span}
use Rattle.pg_check.proofs.Common.{span_at, Counts, height_at, Stands}
use Rattle.pg_check.proofs.order.stands.Goals as goal

stands_by : (game : List GameVertex) (solution : List Answer) (places : List ℕ) (spans : List Span) (v : ℕ) (span : Span) (height : ℕ)
    → span ≡ span_at spans (get_or places v 0) → height ≡ height_at game solution v → span.priority ≤ height
    → (height % 2 ≡ 1 → span.priority ≡ height) → ((w : ℕ) → Counts game solution v w → get_or places w 0 < span.end)
    → Stands game solution places spans v
stands_by game solution places spans v span height is_span is_height low odd leads = record {
  low = subst (λ s. s.priority ≤ height_at game solution v) is_span (subst (λ h. span.priority ≤ h) is_height low);
  odd = subst (λ s. height_at game solution v % 2 ≡ 1 → s.priority ≡ height_at game solution v) is_span
      (subst (λ h. h % 2 ≡ 1 → span.priority ≡ h) is_height odd);
  leads = λ w counts. subst (λ s. get_or places w 0 < s.end) is_span (leads w counts);
}

pub place-requires-in-loop-w : goal.place-requires-in-loop-w
place-requires-in-loop-w c =
    let counts = (c.counted-w-items.ensures.counted c.w-item.result).0 (c.loop-w.w-index, c.loop-w-test.true, sym c.w-item.is) in
    let lt = c.len-count.ensures.game.in_range c.args.v c.w-item.result counts.0 in
    omega (arith, lt, c.requires.places)

pub returns : goal.returns
returns c =
    let is_span : c.span-span.result ≡ span_at c.args.order.now.spans.items (get_or c.args.order.now.places.items c.args.v 0) =
    search rules in
    let odd : c.height.result % 2 ≡ 1 → c.span-span.result.priority ≡ c.height.result = c.if-not-is_said_of.ensures.odd in
    stands_by c.args.game.now c.args.solution.now c.args.order.now.places.items c.args.order.now.spans.items c.args.v c.span-span.result
    c.height.result is_span c.height.ensures c.if-not-is_said_of.ensures.low odd
    (λ w counts. all_passed (λ u. get_or c.args.order.now.places.items u 0 < c.span-span.result.end) c.counted-w-items.result.now
    c.loop-w.w-index w c.loop-w-test.false c.loop-w.invariant ((c.counted-w-items.ensures.counted w).1 counts))
