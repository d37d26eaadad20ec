use Rattle.std.proofs.Common.{◌≡◌, ℕ, List, length, arith, subst, sym, ap, ◌∙◌}
use Rattle.std.proofs.lemmas.Result.{IfOk-weaker}
use Rattle.std.specs.declared.vec.Vec.{Vec}
use Rattle.std.specs.declared.alloc.Global.{Global}
use Rattle.pg_ltl.proofs.Nodes.{length-extends}
use Rattle.pg_means_look.specs.Mirrors.Tables.{row_at}
use Rattle.pg_satisfies_promises.specs.Mirrors.Alternatives.{AreRowsWithin, AddsAlternatives}
use Rattle.pg_satisfies_promises.proofs.Rows.{rows_none, rows_more, all_alternatives}
use Rattle.pg_satisfies_promises.proofs.alternatives.alternatives_of.Goals as goal

pub loop-place-init : goal.loop-place-init
loop-place-init c = rows_none c.args.nodes.now.items c.new-rows.result.items c.new-rows.ensures.items c.requires.ordered

pub split-requires : goal.split-requires
split-requires c =
    let so = c.loop-place.invariant in
    let e : c.deref-in-loop-place.result.now ≡ c.loop-place.rows.items = c.deref-in-loop-place.ensures.value in
    let long = length-extends c.args.nodes.now.items c.loop-place.nodes.items so.grown in
    record {
      ordered = so.ordered;
      place = omega (arith, long, c.loop-place-test.true, c.requires.root);
      rows = subst (AreRowsWithin c.loop-place.nodes.items) (sym e) so.within;
      before = sym (ap length e ∙ so.long);
    }

pub loop-place-preserved : goal.loop-place-preserved
loop-place-preserved c =
    rows_more c.args.nodes.now.items c.loop-place.nodes.items c.split.new.nodes.items c.loop-place.rows.items c.push.new.self.items c.in_ok-row.row
    c.loop-place.place c.loop-place.invariant
    (subst (λ (rows : List (Vec ℕ Global)). AddsAlternatives c.loop-place.nodes.items c.split.new.nodes.items rows c.loop-place.place c.in_ok-row.row.items)
    c.deref-in-loop-place.ensures.value c.in_ok-row.ensures) c.in_ok-push.ensures.items

pub row-requires : goal.row-requires
row-requires c =
    let e = ap length c.deref-2.ensures.value in
    omega (arith, e, c.loop-place.invariant.long, c.loop-place-test.false)

pub returns : goal.returns
returns c =
    IfOk-weaker c.from_slice.result _ _
    (λ (list : Vec ℕ Global) e.
    all_alternatives c.args.nodes.now.items c.loop-place.nodes.items c.loop-place.rows.items c.loop-place.place c.args.root list.items
    c.loop-place.invariant (omega (arith, c.loop-place.invariant.long, c.loop-place-test.false))
    (e ∙ c.row.ensures ∙ ap (λ (rows : List (Vec ℕ Global)). row_at rows c.args.root) c.deref-2.ensures.value)) c.from_slice.ensures.items
