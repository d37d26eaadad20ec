use Rattle.std.proofs.Common.{List, sym, subst}
use Rattle.pg_satisfies_check.specs.declared.branch.TableauBranch.{TableauBranch}
use Rattle.std.specs.Bool.{OnTrue}
use Rattle.pg_satisfies_check.specs.Mirrors.Branches.{HasPut}
use Rattle.pg_satisfies_check.proofs.Covering.{Stack, put_back}
use Rattle.pg_satisfies_check.proofs.check.covers.Goals as goal

pub loop-step-preserved : goal.loop-step-preserved
loop-step-preserved g c forms are h =
    let s = c.args.steps.now in
    let cert = c.args.certificate.now in
    let old = c.pop.new.self.items in
    let new = c.put.new.stack.items in
    let pieces = c.in_ok-pieces.pieces in
    let has = subst (λ b. OnTrue b (HasPut old pieces new)) c.if-not-branch.false c.in_ok-put.ensures in
    c.loop-step.invariant forms are
    (subst (Stack s cert forms c.args.v) (sym {A = List TableauBranch} c.in-Some.ensures.items)
    (put_back s cert forms c.args.v old new c.in-Some.next pieces has (c.in_ok-pieces.ensures forms are) h))
