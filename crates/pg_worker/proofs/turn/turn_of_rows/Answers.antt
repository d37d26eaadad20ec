use Rattle.pg_worker.proofs.Common.{Some, inr, err_from_is_err_and}
use Rattle.pg_worker.proofs.Taking.{does_turn, refuses_bytes}
use Rattle.pg_worker.proofs.turn.turn_of_rows.Goals as goal

pub returns-in_err-take_read-clause-refused : goal.returns-in_err-take_read-clause-refused
returns-in_err-take_read-clause-refused c = λ highest.
    let p = err_from_is_err_and c.from_residual.result c.from_residual.ensures.1 in
    let o = c.in-Some.ensures.found in
    rw (p.1, p.2, c.in-Some-held.is) (inr (refuses_bytes highest c.in-Some-held.held c.args.bytes.now c.in-Some.values _ o
    (c.in_err-take_read.ensures.refused o.0 o.2)))

pub returns-in-Some-clause-turn : goal.returns-in-Some-clause-turn
returns-in-Some-clause-turn c = λ highest.
    let o = c.in-Some.ensures.found in
    rw c.in-Some-held.is (does_turn highest c.in-Some-held.held c.args.bytes.now c.in-Some.values (Some c.take_read.new.held) o
    (c.in_ok-take_read.ensures.turn o.0 o.2))
