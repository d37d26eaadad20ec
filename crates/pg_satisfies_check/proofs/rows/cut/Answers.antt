use Rattle.std.proofs.Common.{true, false}
use Rattle.pg_satisfies_check.proofs.Cutting.{assumes_at, keeps_aside, keeps_cut}
use Rattle.pg_satisfies_check.proofs.rows.cut.Goals as goal

pub returns : goal.returns
returns g c =
    let s = c.args.system.now in
    let row = c.args.row.items in
    let l = c.in-Some.literal in
    keeps_cut s row l c.args.stack.now.items c.put_row.new.stack.items c.put_row-2.new.stack.items c.args.rows.now.items c.in_ok-yes.yes c.in_ok-no.no
    (assumes_at s c.deref-2.result.now row l true c.in_ok-yes.yes c.deref-2.ensures.value c.in_ok-yes.ensures)
    (assumes_at s c.deref-3.result.now row l false c.in_ok-no.no c.deref-3.ensures.value c.in_ok-no.ensures)
    c.in_ok-put_row.ensures c.in_ok-put_row-2.ensures

pub returns-in_default : goal.returns-in_default
returns-in_default g c =
    keeps_aside c.args.system.now c.args.row.items c.deref-in_default.result.now c.in_ok-values.values.items c.args.stack.now.items
    c.args.rows.now.items c.keep.new.rows.items c.deref-in_default.ensures.value c.in_ok-values.ensures c.in_ok-keep.ensures
