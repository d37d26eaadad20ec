use Rattle.std.proofs.Common.{List, ◌++◌, ap, sym, subst, ◌∙◌}
use Rattle.std.proofs.lemmas.Result.{IfOk-weaker}
use Rattle.pg_ltl.specs.Tableaux.{product}
use Rattle.pg_means_look.specs.declared.choice.Choice as own
use Rattle.pg_means_look.specs.declared.pool.Origin.{Origin}
use Rattle.pg_means_look.specs.declared.pool.Pooled.{Pooled}
use Rattle.pg_means_look.specs.Mirrors.Choices.{choices_in, AreCovered}
use Rattle.pg_means_look.specs.Mirrors.Pools.{list_at, made}
use Rattle.pg_means_look.proofs.pool.Pool.list_of.Goals as goal

pub returns-in-Product : goal.returns-in-Product
returns-in-Product c =
    IfOk-weaker c.product_of.result _ _ (λ list h forms.
    let lists = c.args.self.now.lists.items in
    let kept = choices_in forms list.items in
    let ea = c.list_at.ensures ∙ ap (λ (xs : List Pooled). list_at xs c.in-Product.a) c.deref.ensures.value in
    let eb = c.list_at-in-Product.ensures ∙ ap (λ (xs : List Pooled). list_at xs c.in-Product.b) c.deref-in-Product.ensures.value in
    subst (λ (o : Origin). AreCovered kept (made forms lists o)) (sym c.in-Product.is)
    (subst (λ (xs : List own.Choice). AreCovered kept (product (choices_in forms xs) (choices_in forms (list_at lists c.in-Product.b)))) ea
    (subst (λ (ys : List own.Choice). AreCovered kept (product (choices_in forms c.list_at.result.now) (choices_in forms ys))) eb (h forms))))
    c.product_of.ensures

pub returns-in-Union : goal.returns-in-Union
returns-in-Union c =
    IfOk-weaker c.all_of.result _ _ (λ list h forms.
    let lists = c.args.self.now.lists.items in
    let kept = choices_in forms list.items in
    let ea = c.list_at-in-Union.ensures ∙ ap (λ (xs : List Pooled). list_at xs c.in-Union.a) c.deref-in-Union.ensures.value in
    let eb = c.list_at-in-Union-2.ensures ∙ ap (λ (xs : List Pooled). list_at xs c.in-Union.b) c.deref-in-Union-2.ensures.value in
    subst (λ (o : Origin). AreCovered kept (made forms lists o)) (sym c.in-Union.is)
    (subst (λ (xs : List own.Choice). AreCovered kept (choices_in forms xs ++ choices_in forms (list_at lists c.in-Union.b))) ea
    (subst (λ (ys : List own.Choice). AreCovered kept (choices_in forms c.list_at-in-Union.result.now ++ choices_in forms ys)) eb (h forms))))
    c.all_of.ensures
