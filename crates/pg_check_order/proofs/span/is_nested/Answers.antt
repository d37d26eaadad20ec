use Rattle.std.proofs.Common.{◌≡◌, ◌<◌, ◌≤◌, arith, inl, inr, subst}
use Rattle.std.proofs.lemmas.Bool.{cases_lt}
use Rattle.pg_check_order.specs.Orders.{span_at}
use Rattle.pg_check_order.proofs.span.is_nested.Goals as goal

-- what holds of the places before j, of j, and of those before its end
pub loop-j-preserved : goal.loop-j-preserved
loop-j-preserved c =
    let spans = c.args.spans.now in
    let j = c.loop-j.j in
    let next = c.max-j.ensures in
    let after : c.args.i < j = c.loop-j.invariant.after in
    let at_j = c.requires.later j after in
    let within : (span_at spans j).end ≤ (span_at spans c.args.i).end = c.if-here-end.false in
    let less : (span_at spans j).priority ≤ (span_at spans c.args.i).priority = c.if-spans-j.false in
    record {
      after = omega arith;
      lower = λ u from before leads. elim (cases_lt u j) [
        | inl lt ↦ c.loop-j.invariant.lower u from lt leads
        | inr le ↦ elim (cases_lt j u) [
          | inl lt ↦
              let low : (span_at spans u).priority ≤ (span_at spans j).priority = at_j.lower u le (omega arith) in
              omega arith
          | inr ge ↦ let e : j ≡ u = omega arith in subst (λ k. (span_at spans k).priority ≤ (span_at spans c.args.i).priority) e less
        ]
      ];
      inner = λ u from before leads. elim (cases_lt u j) [
        | inl lt ↦ c.loop-j.invariant.inner u from lt leads
        | inr le ↦ elim (cases_lt j u) [
          | inl lt ↦
              let low : (span_at spans u).end ≤ (span_at spans j).end = at_j.inner u le (omega arith) in
              omega arith
          | inr ge ↦ let e : j ≡ u = omega arith in subst (λ k. (span_at spans k).end ≤ (span_at spans c.args.i).end) e within
        ]
      ];
    }
