use Rattle.std.proofs.Common.{◌≡◌, ◌≤◌, ◌++◌, List, ℕ, length, drop, sym, ap, subst, ◌∙◌}
use Rattle.pg_wire.specs.declared.frame.Frame.{Frame}
use Rattle.pg_wire.specs.Bytes.{Spells}
use Rattle.pg_worker.specs.Above.{AreFrames}
use Rattle.pg_coord.specs.Memory.{MemoryValue, IsAboveLink}
use Rattle.pg_coord.proofs.Queues.{IsParted}
use Rattle.pg_coord.proofs.Keeping.{Any, some_left, first_waiting, first_within}
use Rattle.pg_coord.proofs.Under.{AtMostMap, handed_below}
use Rattle.pg_coord.proofs.memory.MemoryLinkLink.receive.Goals as goal
use Rattle.pg_coord.proofs.memory.MemoryLinkLink.receive.Goals.{After-split_at-2}

pub split_at-requires-2 : goal.split_at-requires-2
split_at-requires-2 c =
    let inside = c.self.inside in
    let items = inside.waiting.items in
    let rest = c.split_at.result.1.now in
    let e : rest ≡ drop inside.next items = c.split_at.ensures.back ∙ ap (drop inside.next) c.deref.ensures.value in
    let len : c.len.result ≡ length items = c.len.ensures ∙ sym c.deref.ensures.len ∙ ap length c.deref.ensures.value in
    let some : 1 ≤ length rest = some_left items rest inside.next c.len.result c.self.invariant.within c.if-self-len.false len e in
    first_within Any rest c.first_len.result some (rw e c.self.invariant.frames) c.first_len.ensures

-- the first frame that waits, and those behind it
first_at : (P : Frame → Type 0) (c : After-split_at-2) → AreFrames P c.args.self.now.waiting
    → IsParted P c.split_at-2.result.0.now (drop (length c.split_at-2.result.0.now) c.args.self.now.waiting)
first_at P c frames =
    let inside = c.self.inside in
    let items = inside.waiting.items in
    let rest = c.split_at.result.1.now in
    let e : rest ≡ drop inside.next items = c.split_at.ensures.back ∙ ap (drop inside.next) c.deref.ensures.value in
    let len : c.len.result ≡ length items = c.len.ensures ∙ sym c.deref.ensures.len ∙ ap length c.deref.ensures.value in
    let some : 1 ≤ length rest = some_left items rest inside.next c.len.result c.self.invariant.within c.if-self-len.false len e in
    first_waiting P c.args.self.now.waiting rest c.split_at-2.result.0.now c.split_at-2.result.1.now c.first_len.result some
    (e ∙ ap (λ (m : MemoryValue). m.waiting) c.self.view_is) frames
    c.first_len.ensures c.split_at-2.ensures.front_len c.split_at-2.ensures.by_index.0 c.split_at-2.ensures.back

-- the same, whatever the frames are
any_at : (c : After-split_at-2)
    → IsParted Any c.split_at-2.result.0.now (drop (length c.split_at-2.result.0.now) c.args.self.now.waiting)
any_at c = first_at Any c (subst (AreFrames Any) (ap (λ (m : MemoryValue). m.waiting) c.self.view_is) c.self.invariant.frames)

pub skip-requires-clause-frames : goal.skip-requires-clause-frames
skip-requires-clause-frames c = (any_at (goal.at.skip-requires-clause-frames c).After-split_at-2).others

pub returns-clause-under : goal.returns-clause-under
returns-clause-under c = λ h under.
    let part = first_at (AtMostMap h) (goal.at.returns-clause-under c).After-split_at-2 under.waiting in
    subst (λ (m : MemoryValue). IsAboveLink m h) (sym c.skip.ensures) (record { session = under.session; waiting = part.others })

pub returns-clause-values : goal.returns-clause-values
returns-clause-values c = λ h under f s.
    let front = c.split_at-2.result.0.now in
    let part = first_at (AtMostMap h) (goal.at.returns-clause-values c).After-split_at-2 under.waiting in
    let handed : c.extend_from_slice.new.self.items ≡ front =
    c.in_ok-extend_from_slice.ensures.items ∙ ap (λ (xs : List ℕ). xs ++ front) c.clear.ensures.items in
    handed_below h front (drop (length front) c.args.self.now.waiting) f part (subst (Spells f) handed s)

pub returns-clause-frame : goal.returns-clause-frame
returns-clause-frame c =
    let front = c.split_at-2.result.0.now in
    let part = any_at (goal.at.returns-clause-frame c).After-split_at-2 in
    let handed : c.extend_from_slice.new.self.items ≡ front =
    c.in_ok-extend_from_slice.ensures.items ∙ ap (λ (xs : List ℕ). xs ++ front) c.clear.ensures.items in
    (part.f, subst (Spells part.f) (sym handed) part.spells)
