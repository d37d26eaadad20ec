use Rattle.std.proofs.Common.{◌≡◌, ℕ, Bool, true, false, List, length, get_or, arith, ap, sym, subst, ◌∙◌}
use Rattle.std.proofs.lemmas.List.{length_push}
use Rattle.pg_ltl.specs.declared.normal.NormalNode.TheVariants.{Top}
use Rattle.pg_ltl.specs.NormalForms.{NormalForm}
use Rattle.pg_ltl.specs.Mirrors.Nodes.{normal_at, normals_of, normal_in}
use Rattle.pg_means_look.specs.Mirrors.Choices.{part}
use Rattle.pg_means_look.proofs.Forms.{are_forms}
use Rattle.pg_means_look.proofs.Sound.{on_true_at, values_push}
use Rattle.pg_satisfies_check.specs.Mirrors.Lassos.{AreToldOn}
use Rattle.pg_satisfies_check.proofs.Stepping.{of_true}
use Rattle.pg_satisfies_check.proofs.lasso.knows_each.Goals as goal

pub loop-place-preserved : goal.loop-place-preserved
loop-place-preserved c =
    let s = c.args.system.now in
    let rows = c.args.rows.now in
    let marks = c.loop-place.marks.items in
    let place = c.loop-place.place in
    let long : length marks ≡ place = c.loop-place.invariant.long in
    record {
      long = omega (arith, ap length c.in_ok-push.ensures.items, length_push marks c.knows-known.result, long);
      told = λ forms are.
          values_push (λ k. AreToldOn s rows (part forms k)) marks c.push.new.self.items c.knows-known.result c.in_ok-push.ensures.items
          (c.loop-place.invariant.told forms are)
          (λ now. subst (λ k. AreToldOn s rows (part forms k)) (sym long)
          (subst (AreToldOn s rows) (sym (are place c.loop-place-test.true))
          (of_true c.knows-known.result
          ((forms : List NormalForm) → ((k : ℕ) → get_or c.deref.result.now k false ≡ true → AreToldOn s rows (part forms k))
          → AreToldOn s rows (normal_at forms (get_or c.args.nodes.now place Top)))
          c.knows-known.ensures now forms
          (λ k here. c.loop-place.invariant.told forms are k
          (sym (ap (λ (xs : List Bool). get_or xs k false) c.deref.ensures.value) ∙ here)))));
    }

pub returns : goal.returns
returns c =
    let nodes = c.args.nodes.now in
    let root = c.args.root in
    on_true_at c.is_marked.result (get_or c.loop-place.marks.items root false)
    (AreToldOn c.args.system.now c.args.rows.now (normal_in nodes root))
    (c.is_marked.ensures ∙ ap (λ (xs : List Bool). get_or xs root false) c.deref-2.ensures.value)
    (c.loop-place.invariant.told (normals_of nodes) (are_forms nodes c.requires) root)
