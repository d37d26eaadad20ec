use Rattle.pg_aiger_reader.proofs.Common.{err_from_is_err_and, many_at, latch_at}
use Rattle.pg_aiger_reader.proofs.Many.{many_goes_on, many_fails, many_done}
use Rattle.pg_aiger_reader.proofs.sections.latches.Goals as goal

pub returns-in_err-line : goal.returns-in_err-line
returns-in_err-line c =
    let p = err_from_is_err_and c.from_residual.result c.from_residual.ensures.1 in
    rw (p.1, p.2) (many_fails (latch_at c.args.form) c.in_err-line.field-0.0 c.loop-i.list.items c.args.count c.loop-i.i c.args.first c.loop-i.rest.now
    (many_at (latch_at c.args.form) c.args.count c.args.first c.args.bytes.now) c.loop-i-test.true c.in_err-line.ensures c.loop-i.invariant)

pub loop-i-preserved : goal.loop-i-preserved
loop-i-preserved c =
    rw c.in_ok-push.ensures.items (many_goes_on (latch_at c.args.form) c.loop-i.list.items c.args.count c.loop-i.i c.args.first c.loop-i.rest.now
    c.in_ok-line.line c.in_ok-line.after.now (many_at (latch_at c.args.form) c.args.count c.args.first c.args.bytes.now) c.loop-i-test.true c.in_ok-line.ensures
    c.loop-i.invariant)

pub returns : goal.returns
returns c =
    many_done (latch_at c.args.form) c.loop-i.list.items c.args.count c.loop-i.i c.args.first c.loop-i.rest.now
    (many_at (latch_at c.args.form) c.args.count c.args.first c.args.bytes.now) c.loop-i-test.false c.loop-i.invariant
