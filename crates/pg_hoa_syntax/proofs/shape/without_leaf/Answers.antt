use Rattle.pg_hoa_syntax.proofs.Common.{◌≡◌, ◌∙◌, ap, sym, false, without_leaf}
use Rattle.pg_hoa_syntax.proofs.ShapeSteps.{leaf_first, takes_before, takes_none}
use Rattle.pg_hoa_syntax.proofs.shape.without_leaf.Goals as goal

pub returns-then-is_leaf-2 : goal.returns-then-is_leaf-2
returns-then-is_leaf-2 c =
    let ends = c.in_ok-back.ensures.cases.0 in
    let first : leaf_first c.args.wanted c.args.set c.args.operands.now ≡ false =
    ap (leaf_first c.args.wanted c.args.set) c.in_ok-front.ensures.cases.0 ∙ sym c.is_leaf.ensures ∙ c.if-is_leaf.false in
    sym (ap (without_leaf c.args.wanted c.args.set) ends
    ∙ takes_before c.args.wanted c.args.set c.in_ok-back.before.now c.in_ok-back.back.now
    (ap (leaf_first c.args.wanted c.args.set) (sym ends) ∙ first) (sym c.is_leaf-2.ensures ∙ c.if-is_leaf-2.true))

pub returns-else-is_leaf-2 : goal.returns-else-is_leaf-2
returns-else-is_leaf-2 c =
    let ends = c.in_ok-back.ensures.cases.0 in
    let first : leaf_first c.args.wanted c.args.set c.args.operands.now ≡ false =
    ap (leaf_first c.args.wanted c.args.set) c.in_ok-front.ensures.cases.0 ∙ sym c.is_leaf.ensures ∙ c.if-is_leaf.false in
    sym (ap (without_leaf c.args.wanted c.args.set) ends
    ∙ takes_none c.args.wanted c.args.set c.in_ok-back.before.now c.in_ok-back.back.now
    (ap (leaf_first c.args.wanted c.args.set) (sym ends) ∙ first) (sym c.is_leaf-2.ensures ∙ c.if-is_leaf-2.false))
