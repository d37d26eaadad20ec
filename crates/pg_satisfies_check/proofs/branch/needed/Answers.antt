use Rattle.std.proofs.Common.{◌≡◌, ◌+◌, Bool, Option, List, length, arith, sym, subst, ◌∙◌, true≢false}
use Rattle.std.specs.Vec.{with_items}
use Rattle.std.proofs.lemmas.List.{with_items_is}
use Rattle.pg_satisfies_check.specs.Mirrors.Steps.{IsSeen}
use Rattle.pg_satisfies_check.proofs.Covering.{learnt_at, cover_clash, cover_literal}
use Rattle.pg_satisfies_check.proofs.branch.needed.Goals as goal

pub returns-then-not-note_at : goal.returns-then-not-note_at
returns-then-not-note_at c cert forms v place e =
    let s = c.args.steps.now in
    let p = c.args.proposition in
    let at : c.len.result + p ≡ length s.system.latches.items + p = omega (arith, c.len.ensures, s.system.latches.ok.0) in
    cover_clash s cert forms v c.args.row.items place c.args.rest.items c.args.asks.items c.args.puts.items p c.args.is e
    (λ u seen so. absurd (true≢false (sym (learnt_at s.system p (c.len.result + p) c.args.is c.note_at.result c.args.row.items
    c.deref_mut.result.now c.note_at.new.row at c.deref_mut.ensures.value c.note_at.ensures u seen so).0 ∙ c.if-not-note_at.true)))

pub returns : goal.returns
returns c cert forms v place e h =
    let s = c.args.steps.now in
    let p = c.args.proposition in
    let at : c.len.result + p ≡ length s.system.latches.items + p = omega (arith, c.len.ensures, s.system.latches.ok.0) in
    let long : length c.note_at.new.row ≡ c.args.row.len = omega (arith, c.note_at.auto.row, c.deref_mut.ensures.len) in
    cover_literal s cert forms v c.args.row.items place c.args.rest.items c.args.asks.items c.args.puts.items p c.args.is
    (with_items c.args.row c.note_at.new.row).items e
    (λ u seen so. subst (λ (r : List (Option Bool)). IsSeen s.system r u) (sym (with_items_is c.args.row c.note_at.new.row long))
    (learnt_at s.system p (c.len.result + p) c.args.is c.note_at.result c.args.row.items c.deref_mut.result.now c.note_at.new.row at
    c.deref_mut.ensures.value c.note_at.ensures u seen so).1) h
