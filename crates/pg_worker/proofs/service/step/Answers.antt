use Rattle.pg_worker.proofs.Common.{inr, refl, rules, err_from_is_err_and}
use Rattle.pg_worker.proofs.Exchanging.{refused_at}
use Rattle.pg_worker.proofs.service.step.Goals as goal

pub returns-in_err-halts-clause-fault : goal.returns-in_err-halts-clause-fault
returns-in_err-halts-clause-fault g c =
    let p = err_from_is_err_and c.from_residual.result c.from_residual.ensures.1 in
    let w = c.in-Ok-true.ensures.frame (search rules) in
    let e = rw (c.requires, c.deref.ensures.value) at c.in_err-halts.ensures.refused in
    rw (p.1, p.2) (inr (refused_at (g.R.Read.remaining c.args.input.now) (g.R.Read.remaining c.read_frame_bytes.new.input) c.read_frame_bytes.new.bytes.items c.args.session.now.held c.in_err-halts.field-0.0 w.0 w.1 e, refl))
