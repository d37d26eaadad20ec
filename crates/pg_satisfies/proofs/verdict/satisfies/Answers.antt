use Rattle.std.proofs.Common.{◌≡◌, ℕ, List, false, subst, sym, ap, ◌∙◌}
use Rattle.std.proofs.lemmas.List.{take_all}
use Rattle.std.specs.declared.vec.Vec.{Vec}
use Rattle.std.specs.declared.alloc.Global.{Global}
use Rattle.pg_ltl.specs.declared.normal.NormalNode.{NormalNode}
use Rattle.pg_ltl.specs.NormalForms.{normal}
use Rattle.pg_ltl.specs.Mirrors.Nodes.{normal_in}
use Rattle.pg_ltl.specs.Mirrors.Views.{written}
use Rattle.pg_satisfies_check.proofs.Judging.{satisfaction}
use Rattle.pg_satisfies_promises.specs.Mirrors.Promises.{Splits, IsImplied}
use Rattle.pg_satisfies.specs.Verdicts.{asked}
use Rattle.pg_satisfies.specs.Mirrors.Attempts.{ShowsAll}
use Rattle.pg_satisfies.proofs.Deciding.{asked_normal, AllRefuted, unsatisfied, refuted_more, violated}
use Rattle.pg_satisfies.proofs.verdict.satisfies.Goals as goal

pub returns-in-Violated : goal.returns-in-Violated
returns-in-Violated c =
    let form = c.in_ok-normal_form.field-0 in
    let p = c.in_ok-promises.promises in
    let nodes = c.deref.result.now in
    let promises = c.deref-tries-items.result.now in
    let f = asked c.args.positive (written c.args.formula.now) in
    let root_is : normal_in nodes form.root ≡ normal false f =
    ap (λ (ns : List NormalNode). normal_in ns form.root) c.deref.ensures.value ∙ c.in_ok-promises.ensures.keeps form.root form.within
    ∙ c.in_ok-normal_form.ensures ∙ asked_normal c.args.positive (written c.args.formula.now) in
    let implied : IsImplied nodes form.root promises =
    subst (λ (ns : List NormalNode). IsImplied ns form.root promises) (sym c.deref.ensures.value)
    (subst (λ (ts : List (Vec ℕ Global)). IsImplied p.nodes.items form.root ts) (sym c.deref-tries-items.ensures.value) c.in_ok-promises.ensures.implied) in
    violated c.args.netlist.now c.args.literals.now nodes form.root promises f c.loop-tries.tries-index c.tries-item.result
    c.deref-in-loop-tries.result.now c.in-Violated.letters c.in-Violated.back root_is implied c.loop-tries-test.true c.tries-item.is
    c.deref-in-loop-tries.ensures.value
    (subst (ShowsAll c.args.netlist.now c.args.literals.now nodes c.deref-in-loop-tries.result.now) c.in-Violated.is c.in_ok-refute.ensures)

pub loop-tries-preserved : goal.loop-tries-preserved
loop-tries-preserved c =
    let nodes = c.deref.result.now in
    refuted_more c.args.netlist.now c.args.literals.now nodes c.deref-tries-items.result.now c.loop-tries.tries-index c.tries-item.result
    c.deref-in-loop-tries.result.now c.loop-tries-test.true c.tries-item.is c.deref-in-loop-tries.ensures.value
    (subst (ShowsAll c.args.netlist.now c.args.literals.now nodes c.deref-in-loop-tries.result.now) c.in-Refuted.is c.in_ok-refute.ensures)
    c.loop-tries.invariant

pub returns : goal.returns
returns c =
    let form = c.in_ok-normal_form.field-0 in
    let p = c.in_ok-promises.promises in
    let nodes = c.deref.result.now in
    let promises = c.deref-tries-items.result.now in
    let f = asked c.args.positive (written c.args.formula.now) in
    let root_is : normal_in nodes form.root ≡ normal false f =
    ap (λ (ns : List NormalNode). normal_in ns form.root) c.deref.ensures.value ∙ c.in_ok-promises.ensures.keeps form.root form.within
    ∙ c.in_ok-normal_form.ensures ∙ asked_normal c.args.positive (written c.args.formula.now) in
    let splits : Splits nodes form.root promises =
    subst (λ (ns : List NormalNode). Splits ns form.root promises) (sym c.deref.ensures.value)
    (subst (λ (ts : List (Vec ℕ Global)). Splits p.nodes.items form.root ts) (sym c.deref-tries-items.ensures.value) c.in_ok-promises.ensures.splits) in
    satisfaction c.args.netlist.now c.args.literals.now f
    (unsatisfied c.args.netlist.now c.args.literals.now nodes form.root promises (normal false f) root_is splits
    (subst (AllRefuted c.args.netlist.now c.args.literals.now nodes) (take_all c.loop-tries.tries-index promises c.loop-tries-test.false)
    c.loop-tries.invariant))
