use Rattle.pg_hoa_syntax.proofs.Common.{◌∙◌, ap, sym, inner_at}
use Rattle.pg_hoa_syntax.proofs.ShapeSteps.{inner_is, inner_none}
use Rattle.pg_hoa_syntax.proofs.shape.inner.Goals as goal

pub returns-then-is_join : goal.returns-then-is_join
returns-then-is_join c =
    c.without_leaf.ensures ∙ sym (ap (inner_at c.args.wanted c.args.set) c.in_ok-last.ensures.cases.0
    ∙ inner_is c.args.wanted c.args.set c.in_ok-last.operands.now c.in_ok-last.last.now (sym c.is_join.ensures ∙ c.if-is_join.true))

pub returns-else-is_join : goal.returns-else-is_join
returns-else-is_join c =
    sym (ap (inner_at c.args.wanted c.args.set) c.in_ok-last.ensures.cases.0
    ∙ inner_none c.args.wanted c.args.set c.in_ok-last.operands.now c.in_ok-last.last.now (sym c.is_join.ensures ∙ c.if-is_join.false))
