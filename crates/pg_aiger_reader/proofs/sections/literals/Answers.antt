use Rattle.pg_aiger_reader.proofs.Common.{err_from_is_err_and, many_at, input_at}
use Rattle.pg_aiger_reader.proofs.Many.{many_goes_on, many_fails, many_done}
use Rattle.pg_aiger_reader.proofs.sections.literals.Goals as goal

pub returns-in_err-literal : goal.returns-in_err-literal
returns-in_err-literal c =
    let p = err_from_is_err_and c.from_residual.result c.from_residual.ensures.1 in
    rw (p.1, p.2) (many_fails (input_at c.args.form) c.in_err-literal.field-0.0 c.loop-i.list.items c.args.count c.loop-i.i 1 c.loop-i.rest.now
    (many_at (input_at c.args.form) c.args.count 1 c.args.bytes.now) c.loop-i-test.true c.in_err-literal.ensures c.loop-i.invariant)

pub loop-i-preserved : goal.loop-i-preserved
loop-i-preserved c =
    rw c.in_ok-push.ensures.items (many_goes_on (input_at c.args.form) c.loop-i.list.items c.args.count c.loop-i.i 1 c.loop-i.rest.now
    c.in_ok-literal.literal c.in_ok-literal.after.now (many_at (input_at c.args.form) c.args.count 1 c.args.bytes.now) c.loop-i-test.true c.in_ok-literal.ensures
    c.loop-i.invariant)

pub returns : goal.returns
returns c =
    many_done (input_at c.args.form) c.loop-i.list.items c.args.count c.loop-i.i 1 c.loop-i.rest.now
    (many_at (input_at c.args.form) c.args.count 1 c.args.bytes.now) c.loop-i-test.false c.loop-i.invariant
