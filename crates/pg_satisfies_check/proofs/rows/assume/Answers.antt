use Rattle.std.proofs.Common.{◌≡◌, length, arith, ◌∙◌}
use Rattle.std.specs.Vec.{with_items}
use Rattle.std.proofs.lemmas.List.{with_items_is}
use Rattle.pg_satisfies_check.proofs.Cutting.{clash_later, assumed}
use Rattle.pg_satisfies_check.proofs.rows.assume.Goals as goal

pub returns-then-not-branch : goal.returns-then-not-branch
returns-then-not-branch c =
    let long : length c.note.new.row ≡ c.in_ok-new.new.len = omega (arith, c.note.auto.row, c.deref_mut.ensures.len) in
    clash_later c.args.system.now c.args.row.now c.args.literal c.args.is c.in_ok-new.new.items c.note.result c.note.new.row
    c.deref_mut.result.now c.in_ok-new.ensures.items c.deref_mut.ensures.value c.note.ensures c.in_ok-settle.field-0 c.settle.new.row
    c.deref_mut-2.result.now (c.deref_mut-2.ensures.value ∙ with_items_is c.in_ok-new.new c.note.new.row long)
    c.deref.result.now c.deref.ensures.value c.in_ok-settle.ensures c.if-not-branch.true

pub returns : goal.returns
returns c =
    let long : length c.note.new.row ≡ c.in_ok-new.new.len = omega (arith, c.note.auto.row, c.deref_mut.ensures.len) in
    let again : length c.settle.new.row ≡ c.in_ok-new.new.len = omega (arith, c.settle.auto.row, c.deref_mut-2.ensures.len) in
    assumed c.args.system.now c.args.row.now c.args.literal c.args.is c.in_ok-new.new.items c.note.result c.note.new.row
    c.deref_mut.result.now c.in_ok-new.ensures.items c.deref_mut.ensures.value c.note.ensures c.in_ok-settle.field-0 c.settle.new.row
    c.deref_mut-2.result.now (c.deref_mut-2.ensures.value ∙ with_items_is c.in_ok-new.new c.note.new.row long)
    c.deref.result.now c.deref.ensures.value c.in_ok-settle.ensures
    (with_items (with_items c.in_ok-new.new c.note.new.row) c.settle.new.row)
    (with_items_is (with_items c.in_ok-new.new c.note.new.row) c.settle.new.row again)
