use Rattle.std.proofs.Common.{List, [], ◌∙◌, subst, arith}
use Rattle.std.specs.Bool.{OnTrue}
use Rattle.std.specs.declared.vec.Vec.{Vec}
use Rattle.std.specs.declared.alloc.Global.{Global}
use Rattle.std.specs.Prelude.{Option, Bool}
use Rattle.std.proofs.lemmas.List.Elements.{All-more}
use Rattle.pg_ltl.specs.NormalForms.{NormalForm}
use Rattle.pg_means_look.specs.Mirrors.Choices.{AreForms}
use Rattle.pg_means_look.specs.Mirrors.Tables.{row_at}
use Rattle.std.proofs.lemmas.List.{take_all}
use Rattle.pg_satisfies_check.specs.Mirrors.Steps.{Rows}
use Rattle.pg_satisfies_check.specs.Mirrors.Views.{Covers, CoversEach}
use Rattle.pg_satisfies_check.proofs.Covering.{covers_at, covers_row}
use Rattle.pg_satisfies_check.proofs.check.covers_each.Goals as goal

pub loop-row-preserved : goal.loop-row-preserved
loop-row-preserved g c forms are =
    let s = c.args.steps.now in
    let cert = c.args.certificate.now in
    let v = c.args.v in
    let asks = row_at cert.asks.items v in
    let row = c.row-item.result in
    let copy = c.in_ok-copied_row.field-0.items in
    let todo = c.in_ok-copied.field-0.items in
    let covered = subst (λ b. OnTrue b ((forms : List NormalForm) → AreForms c.args.nodes.now forms
    → Covers s cert forms v copy todo c.new.result.items c.new-in-loop-row.result.items)) c.if-not-branch.false c.in_ok-covers.ensures in
    let here = covers_row s cert forms v copy row.items asks [] [] (c.in_ok-copied_row.ensures ∙ c.deref.ensures.value)
    (covers_at s cert forms v copy todo c.new.result.items c.new-in-loop-row.result.items asks [] []
    (c.in_ok-copied.ensures ∙ c.asks.ensures) c.new.ensures.items c.new-in-loop-row.ensures.items (covered forms are)) in
    All-more (λ (r : Vec (Option Bool) Global). Covers s cert forms v r.items asks [] []) c.args.rows.now c.loop-row.row-index row
    c.loop-row-test.true (c.loop-row.invariant forms are)
    (subst (λ (r : Vec (Option Bool) Global). Covers s cert forms v r.items asks [] []) c.row-item.is here)

pub returns : goal.returns
returns g c forms are =
    subst (λ (rs : Rows). CoversEach c.args.steps.now c.args.certificate.now forms c.args.v rs)
    (take_all c.loop-row.row-index c.args.rows.now (omega arith)) (c.loop-row.invariant forms are)
