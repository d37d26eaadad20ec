use Rattle.std.proofs.Common.{sym, subst}
use Rattle.std.proofs.lemmas.Result.{IfOk-weaker}
use Rattle.pg_ltl.specs.declared.formula.Prefix.TheVariants.{Not}
use Rattle.pg_ltl.specs.Formulas.{one}
use Rattle.pg_ltl.specs.Mirrors.Pairs.{AddsFormula}
use Rattle.pg_ltl.proofs.Pairs.{adds_negated, finally_adds, stands_negated}
use Rattle.pg_ltl.proofs.normalizing.prefixed.Goals as goal

pub returns-in_ok-always-in-Finally : goal.returns-in_ok-always-in-Finally
returns-in_ok-always-in-Finally c = IfOk-weaker c.until.result _ _
    (λ p adds a s. subst (λ op. AddsFormula c.args.nodes.now.items c.until.new.nodes.items p (one op a)) (sym c.in-Finally.is)
    (finally_adds _ _ _ p c.in_ok-always-in-Finally.always c.args.f a c.in_ok-always-in-Finally.ensures s adds))
    c.until.ensures

pub returns-in_ok-failure-in-Globally : goal.returns-in_ok-failure-in-Globally
returns-in_ok-failure-in-Globally c =
    λ a s. subst (λ op. AddsFormula c.args.nodes.now.items c.until-in-Globally.new.nodes.items c.negation-in-Globally-2.result (one op a))
    (sym c.in-Globally.is)
    (adds_negated _ _ c.in_ok-failure-in-Globally.failure _ _ _ c.negation-in-Globally-2.ensures
    (finally_adds _ _ _ c.in_ok-failure-in-Globally.failure c.in_ok-always-in-Globally.always c.negation-in-Globally.result (one Not a)
    c.in_ok-always-in-Globally.ensures (stands_negated _ _ _ a c.negation-in-Globally.ensures s) c.in_ok-failure-in-Globally.ensures))
