use Rattle.std.specs.Prelude.{◌≡◌, Result, OnOk, Ok, Err}
use Rattle.std.proofs.Common.{subst}
use Rattle.pg_wire.specs.declared.frame.Frame.{Frame}
use Rattle.pg_wire.proofs.Bodies.{one_frame}
use Rattle.pg_coord.specs.Memory.{MemoryValue, Sends}
use Rattle.pg_coord.proofs.Under.{sent_above}
use Rattle.pg_coord.proofs.memory.MemoryLinkLink.send.Goals as goal

on_ok : {T E : Type 0} (r : Result T E) (P Q : Type 0) → (P → Q) → OnOk r P → OnOk r Q
on_ok (Ok x) P Q f p = f p
on_ok (Err e) P Q f p = tt

pub returns-then-branch-clause-under : goal.returns-then-branch-clause-under
returns-then-branch-clause-under c = λ f s h under.
    let sent = rw c.if-branch.true at c.in_ok-take_rows.ensures.ok in
    sent_above c.args.self.now c.take_rows.new.self f sent.0 c.args.frame.now h c.in_ok-take_rows.ensures.small sent.1 sent.2 s under

pub returns-then-branch-clause-sent : goal.returns-then-branch-clause-sent
returns-then-branch-clause-sent c = λ f s.
    let sent = rw c.if-branch.true at c.in_ok-take_rows.ensures.ok in
    subst (λ (g : Frame). Sends g c.args.self.now c.take_rows.new.self) (one_frame sent.0 f c.args.frame.now sent.1 s) sent.2

pub returns-in-Ok-clause-under : goal.returns-in-Ok-clause-under
returns-in-Ok-clause-under c =
    let same : c.take_rows.new.self ≡ c.args.self.now = rw c.if-branch.false at c.in_ok-take_rows.ensures.ok in
    on_ok c.take.result _ _ (λ sends. λ f s h under.
    sent_above c.args.self.now c.take.new.self f c.in-Ok.told c.args.frame.now h c.in_ok-take_rows.ensures.small c.in-Ok.ensures.found
    (subst (λ (m : MemoryValue). Sends c.in-Ok.told m c.take.new.self) same sends) s under)
    c.take.ensures.ok

pub returns-in-Ok-clause-sent : goal.returns-in-Ok-clause-sent
returns-in-Ok-clause-sent c =
    let same : c.take_rows.new.self ≡ c.args.self.now = rw c.if-branch.false at c.in_ok-take_rows.ensures.ok in
    on_ok c.take.result _ _ (λ sends. λ f s.
    subst (λ (g : Frame). Sends g c.args.self.now c.take.new.self) (one_frame c.in-Ok.told f c.args.frame.now c.in-Ok.ensures.found s)
    (subst (λ (m : MemoryValue). Sends c.in-Ok.told m c.take.new.self) same sends))
    c.take.ensures.ok
