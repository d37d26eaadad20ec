use Rattle.std.proofs.Common.{◌≡◌, length, arith, subst, sym}
use Rattle.std.specs.Vec.{with_items}
use Rattle.std.proofs.lemmas.List.{with_items_is}
use Rattle.pg_satisfies_check.specs.Mirrors.Known.{IsBlank}
use Rattle.pg_satisfies_check.proofs.Cutting.{no_beginning, beginning}
use Rattle.pg_satisfies_check.proofs.rows.begin.Goals as goal

pub returns : goal.returns
returns c =
    let long : length c.fill.new.row ≡ c.in_ok-row.row.len = omega (arith, c.fill.auto.row, c.deref_mut.ensures.len) in
    beginning c.args.system.now c.args.bits.now c.deref_mut.result.now c.in_ok-fill.field-0 c.fill.new.row
    (subst IsBlank (sym c.deref_mut.ensures.value) c.in_ok-row.ensures) c.in_ok-fill.ensures
    (with_items c.in_ok-row.row c.fill.new.row) (with_items_is c.in_ok-row.row c.fill.new.row long)

pub returns-then-not-branch : goal.returns-then-not-branch
returns-then-not-branch c =
    no_beginning c.args.system.now c.args.bits.now c.deref_mut.result.now c.in_ok-fill.field-0 c.fill.new.row
    (subst IsBlank (sym c.deref_mut.ensures.value) c.in_ok-row.ensures) c.in_ok-fill.ensures c.if-not-branch.true
