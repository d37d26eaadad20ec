use Rattle.std.proofs.Common.{sym, subst}
use Rattle.pg_ltl.specs.declared.formula.Prefix.TheVariants.{Not}
use Rattle.pg_ltl.specs.Formulas.{one, two}
use Rattle.pg_ltl.specs.Mirrors.Pairs.{AddsFormula}
use Rattle.pg_ltl.proofs.Pairs.{adds_negated, stands_negated}
use Rattle.pg_ltl.proofs.normalizing.joined.Goals as goal

pub returns-in_ok-weak_until-in-Strong : goal.returns-in_ok-weak_until-in-Strong
returns-in_ok-weak_until-in-Strong c =
    λ a b s t. subst (λ op. AddsFormula c.args.nodes.now.items c.weak_until-in-Strong.new.nodes.items c.negation-in-Strong-3.result (two op a b))
    (sym c.in-Strong.is)
    (adds_negated _ _ c.in_ok-weak_until-in-Strong.field-0 _ _ _ c.negation-in-Strong-3.ensures
    (c.in_ok-weak_until-in-Strong.ensures (one Not a) (one Not b) (stands_negated _ _ _ a c.negation-in-Strong.ensures s)
    (stands_negated _ _ _ b c.negation-in-Strong-2.ensures t)))
