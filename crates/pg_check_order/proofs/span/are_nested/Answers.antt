use Rattle.std.proofs.Common.{◌-◌, refl, sym, subst, arith, inl, inr}
use Rattle.std.proofs.lemmas.Bool.{cases_eq}
use Rattle.pg_check_order.specs.Orders.{IsNested}
use Rattle.pg_check_order.proofs.span.are_nested.Goals as goal

pub loop-i-preserved : goal.loop-i-preserved
loop-i-preserved c =
    let le = c.loop-i.invariant.within in
    let some = c.loop-i-test.true in
    record {
      within = omega arith;
      later = λ j from. elim (cases_eq j (c.loop-i.i - 1)) [
        | inl e ↦ subst (IsNested c.args.player c.args.spans.now) (sym e) (c.if-not-is_nested.ensures.0 refl)
        | inr ne ↦ c.loop-i.invariant.later j (omega (arith, ne))
      ];
    }
