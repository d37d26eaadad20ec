use Rattle.std.proofs.Common.{◌≤◌, Bool, List, [], ◌∷◌, if◌then◌else◌, length, arith, ap, sym, subst, ◌∙◌}
use Rattle.std.proofs.lemmas.Result.{IfOk-weaker}
use Rattle.pg_ltl.specs.declared.normal.NormalNode.{NormalNode}
use Rattle.pg_ltl.specs.NormalForms.{NormalForm}
use Rattle.pg_ltl.specs.Tableaux.{Choice, free, same, choices}
use Rattle.pg_ltl.specs.Mirrors.Nodes.{normal_at, normal_reach}
use Rattle.pg_means_look.specs.Mirrors.Tables.{truth_at}
use Rattle.pg_means_look.specs.Mirrors.Choices.{part}
use Rattle.pg_means_look.specs.Mirrors.Pools.{Has}
use Rattle.pg_means_look.proofs.pool.Pool.row.Goals as goal

pub returns-in-Top : goal.returns-in-Top
returns-in-Top c =
    IfOk-weaker c.number.result _ _ (λ number h forms is rows e.
    subst (λ (f : NormalForm). Has forms c.args.self.now.lists.items c.number.new.self.lists.items
    (choices (λ p. truth_at c.args.truths.now p c.args.letter) f) number) (sym (e ∙ ap (normal_at forms) c.in-Top.is)) (h forms is tt)) c.number.ensures

pub returns-in-Literal : goal.returns-in-Literal
returns-in-Literal c =
    IfOk-weaker c.number-in-Literal.result _ _ (λ number h forms is rows e.
    let old = c.args.self.now.lists.items in
    let new = c.number-in-Literal.new.self.lists.items in
    subst (λ (f : NormalForm). Has forms old new (choices (λ p. truth_at c.args.truths.now p c.args.letter) f) number)
    (sym (e ∙ ap (normal_at forms) c.in-Literal.is))
    (subst (λ (b : Bool). Has forms old new (if same b c.in-Literal.value then free ∷ [] else []) number) c.holds.ensures
    (subst (λ (all : List Choice). Has forms old new all number) (c.literal.ensures.made forms old)
    (h forms is (c.literal.ensures.within (length old)))))) c.number-in-Literal.ensures

pub returns-in-Both : goal.returns-in-Both
returns-in-Both c =
    let reach = subst (λ (n : NormalNode). normal_reach n ≤ length c.args.rows.now) c.in-Both.is c.requires in
    IfOk-weaker c.product.result _ _ (λ number h forms is rows e.
    let on = λ (f : NormalForm). choices (λ p. truth_at c.args.truths.now p c.args.letter) f in
    subst (λ (f : NormalForm). Has forms c.args.self.now.lists.items c.product.new.self.lists.items (on f) number)
    (sym (e ∙ ap (normal_at forms) c.in-Both.is))
    (h forms (on (part forms c.in-Both.a)) (on (part forms c.in-Both.b)) is (rows c.in-Both.a (omega arith)) (rows c.in-Both.b (omega arith))))
    c.product.ensures

pub returns-in-Either : goal.returns-in-Either
returns-in-Either c =
    let reach = subst (λ (n : NormalNode). normal_reach n ≤ length c.args.rows.now) c.in-Either.is c.requires in
    IfOk-weaker c.union.result _ _ (λ number h forms is rows e.
    let on = λ (f : NormalForm). choices (λ p. truth_at c.args.truths.now p c.args.letter) f in
    subst (λ (f : NormalForm). Has forms c.args.self.now.lists.items c.union.new.self.lists.items (on f) number)
    (sym (e ∙ ap (normal_at forms) c.in-Either.is))
    (h forms (on (part forms c.in-Either.a)) (on (part forms c.in-Either.b)) is (rows c.in-Either.a (omega arith)) (rows c.in-Either.b (omega arith))))
    c.union.ensures

pub returns-in-Next : goal.returns-in-Next
returns-in-Next c =
    IfOk-weaker c.number-in-Next.result _ _ (λ number h forms is rows e.
    subst (λ (f : NormalForm). Has forms c.args.self.now.lists.items c.number-in-Next.new.self.lists.items
    (choices (λ p. truth_at c.args.truths.now p c.args.letter) f) number) (sym (e ∙ ap (normal_at forms) c.in-Next.is)) (h forms is tt))
    c.number-in-Next.ensures
