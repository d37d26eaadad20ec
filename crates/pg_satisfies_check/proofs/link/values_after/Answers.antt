use Rattle.std.proofs.Common.{◌≡◌, length, arith, subst, sym, ◌∙◌}
use Rattle.std.proofs.lemmas.List.{with_items_is}
use Rattle.pg_satisfies_check.specs.Mirrors.Known.{IsBlank}
use Rattle.pg_satisfies_check.proofs.Linking.{link_by}
use Rattle.pg_satisfies_check.proofs.link.values_after.Goals as goal

pub returns : goal.returns
returns c =
    let long : length c.fill_step.new.row ≡ c.in_ok-row.row.len = omega (arith, c.fill_step.auto.row, c.deref_mut.ensures.len) in
    link_by c.args.system.now c.args.inputs.now c.args.letter.now c.args.values.now c.deref_mut.result.now c.fill_step.result c.fill_step.new.row
    c.deref.result.now c.in_ok-seen.seen.items (subst IsBlank (sym c.deref_mut.ensures.value) c.in_ok-row.ensures) c.fill_step.ensures
    (c.deref.ensures.value ∙ with_items_is c.in_ok-row.row c.fill_step.new.row long) c.in_ok-seen.ensures
