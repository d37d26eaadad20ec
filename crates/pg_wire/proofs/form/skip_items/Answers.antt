use Rattle.pg_wire.proofs.Common.{err_from_is_err_and, skipped, so_many}
use Rattle.pg_wire.proofs.Skip.{goes_on, ends, is_done}
use Rattle.pg_wire.proofs.form.skip_items.Goals as goal

pub returns-in_err-next : goal.returns-in_err-next
returns-in_err-next g c =
    let p = err_from_is_err_and c.from_residual.result c.from_residual.ensures.1 in
    rw (p.1, p.2) (ends (g.F.Form.kind c.args.width) _ c.args.count c.loop.counter c.loop.at c.loop.rest.now
    (skipped (so_many (g.F.Form.kind c.args.width) c.args.count c.args.place).read c.args.bytes.now) c.loop-test.true c.in_err-next.ensures c.loop.invariant)

pub loop-preserved : goal.loop-preserved
loop-preserved g c = goes_on (g.F.Form.kind c.args.width) c.args.count c.loop.counter c.loop.at c.in_ok-next.next c.loop.rest.now c.in_ok-next.after.now
    (skipped (so_many (g.F.Form.kind c.args.width) c.args.count c.args.place).read c.args.bytes.now) c.loop-test.true c.in_ok-next.ensures c.loop.invariant

pub returns : goal.returns
returns g c = is_done (g.F.Form.kind c.args.width) c.args.count c.loop.counter c.loop.at c.loop.rest.now
    (skipped (so_many (g.F.Form.kind c.args.width) c.args.count c.args.place).read c.args.bytes.now) c.loop-test.false c.loop.invariant
