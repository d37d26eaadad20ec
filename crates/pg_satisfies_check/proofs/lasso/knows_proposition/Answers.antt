use Rattle.std.proofs.Common.{◌≡◌, ◌+◌, ◌<◌, length, arith, subst}
use Rattle.pg_satisfies_check.specs.Mirrors.Lassos.{IsKnownOn, IsToldOn}
use Rattle.pg_satisfies_check.proofs.Stepping.{on_true_weaker}
use Rattle.pg_satisfies_check.proofs.lasso.knows_proposition.Goals as goal

pub returns : goal.returns
returns c =
    let s = c.args.system.now in
    let p = c.args.proposition in
    let below : p < length s.literals.items = omega (arith, c.len.ensures, c.if-p-len.false, s.literals.ok.0) in
    let at : c.len-2.result + p ≡ length s.latches.items + p = omega (arith, c.len-2.ensures, s.latches.ok.0) in
    on_true_weaker c.is_known_on.result (IsKnownOn c.args.rows.now (c.len-2.result + p)) (IsToldOn s c.args.rows.now p)
    (λ on. (below, subst (IsKnownOn c.args.rows.now) at on)) c.is_known_on.ensures
