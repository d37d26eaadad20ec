use Rattle.pg_aiger_reader.proofs.Common.{◌≡◌, Bool, subst, err_from_is_err_and, some, field_at, line_at}
use Rattle.pg_aiger_reader.proofs.Loops.{line_goes_on, line_ends, line_fails, line_too_long}
use Rattle.pg_aiger_reader.proofs.number.line.Goals as goal

pub returns-in_err-number : goal.returns-in_err-number
returns-in_err-number c =
    let p = err_from_is_err_and c.from_residual.result c.from_residual.ensures.1 in
    rw (p.1, p.2) (line_fails c.in_err-number.field-0.0 c.loop.numbers.items c.args.most c.loop.counter c.loop.rest.now
    (line_at c.args.most c.args.bytes.now) c.loop-test.true c.in_err-number.ensures c.loop.invariant)

pub returns-then-last : goal.returns-then-last
returns-then-last c =
    let f = c.in_ok-number in
    rw c.in_ok-push.ensures.items (line_ends c.loop.numbers.items c.args.most c.loop.counter c.loop.rest.now f.number f.after.now
    (line_at c.args.most c.args.bytes.now) c.loop-test.true
    (subst (λ (last : Bool). field_at c.loop.rest.now ≡ some (f.number, last, f.after.now)) c.if-last.true f.ensures) c.loop.invariant)

pub loop-preserved : goal.loop-preserved
loop-preserved c =
    let f = c.in_ok-number in
    rw c.in_ok-push.ensures.items (line_goes_on c.loop.numbers.items c.args.most c.loop.counter c.loop.rest.now f.number f.after.now
    (line_at c.args.most c.args.bytes.now) c.loop-test.true
    (subst (λ (last : Bool). field_at c.loop.rest.now ≡ some (f.number, last, f.after.now)) c.if-last.false f.ensures) c.loop.invariant)

pub returns : goal.returns
returns c =
    line_too_long c.loop.numbers.items c.args.most c.loop.counter c.loop.rest.now (line_at c.args.most c.args.bytes.now) c.loop-test.false
    c.loop.invariant
