use Rattle.std.proofs.Common.{◌≡◌, ◌∙◌, refl, subst, arith}
use Rattle.std.specs.Prelude.{All, Any}
use Rattle.std.proofs.lemmas.List.{get_or_default}
use Rattle.pg_arena.specs.Games.{opponent}
use Rattle.pg_map.specs.Lines.{line_at}
use Rattle.pg_map.specs.Maps.{SomeOrAll}
use Rattle.pg_check_order.specs.Orders.{span_at}
use Rattle.pg_map_claims.specs.Mirrors.Backing.{Backs, IsGoodClaim}
use Rattle.pg_map_claims.proofs.Backed.{on_true, good_claim}
use Rattle.pg_map_claims.proofs.backing.is_good_claim.Goals as goal

pub returns-in-Even : goal.returns-in-Even
returns-in-Even g c =
    let lines = g.G.Lines.line c.args.lines.now in
    let x = c.args.claims.now in
    let known = c.args.known.now in
    let claim = c.args.claim in
    let span = c.index-span.result.now in
    let low = c.low_of-low.result in
    let at : span ≡ span_at x.spans.items claim.place =
    c.index-span.ensures ∙ get_or_default x.spans.items claim.place span (record { priority = 0; end = 0 })
    (let size = c.len.ensures in let ok = x.spans.ok.0 in let lt = c.if-place-len.false in omega arith) in
    on_true c.all_back.result (All (Backs x known low span.end) c.successors-successors.result.now)
    (IsGoodClaim lines c.args.ladder.now x known claim)
    (λ h. good_claim lines c.args.ladder.now x known claim span c.priority-priority.result low (c.if-not-holds.ensures.0 refl) at
    c.priority-priority.ensures c.if-span-priority.false c.low_of-low.ensures
    (subst (λ o. SomeOrAll (opponent o) (Backs x known low span.end) (line_at lines claim.vertex).successors) c.in-Even.ensures
    (subst (All (Backs x known low span.end)) c.successors-successors.ensures h)))
    c.all_back.ensures

pub returns-in-Odd : goal.returns-in-Odd
returns-in-Odd g c =
    let lines = g.G.Lines.line c.args.lines.now in
    let x = c.args.claims.now in
    let known = c.args.known.now in
    let claim = c.args.claim in
    let span = c.index-span.result.now in
    let low = c.low_of-low.result in
    let at : span ≡ span_at x.spans.items claim.place =
    c.index-span.ensures ∙ get_or_default x.spans.items claim.place span (record { priority = 0; end = 0 })
    (let size = c.len.ensures in let ok = x.spans.ok.0 in let lt = c.if-place-len.false in omega arith) in
    on_true c.one_backs.result (Any (Backs x known low span.end) c.successors-successors.result.now)
    (IsGoodClaim lines c.args.ladder.now x known claim)
    (λ h. good_claim lines c.args.ladder.now x known claim span c.priority-priority.result low (c.if-not-holds.ensures.0 refl) at
    c.priority-priority.ensures c.if-span-priority.false c.low_of-low.ensures
    (subst (λ o. SomeOrAll (opponent o) (Backs x known low span.end) (line_at lines claim.vertex).successors) c.in-Odd.ensures
    (subst (Any (Backs x known low span.end)) c.successors-successors.ensures h)))
    c.one_backs.ensures
