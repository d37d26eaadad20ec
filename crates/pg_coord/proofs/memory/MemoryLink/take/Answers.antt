use Rattle.std.proofs.Common.{Result, Ok, Err, OnOk, drop, refl, sym, ap, ◌∙◌}
use Rattle.pg_coord.specs.Memory.{MemoryValue}
use Rattle.pg_coord.proofs.Keeping.{kept_turn, turn_sent, refusal_sent}
use Rattle.pg_coord.proofs.memory.MemoryLink.take.Goals as goal

pub invariant_of-self : goal.invariant_of-self
invariant_of-self c =
    let inside = c.self.inside in
    let turn = c.in-Ok.ensures.turn in
    kept_turn inside.highest inside.session.highest c.frame_without_rows.new.self.highest inside.next inside.session.held
    c.frame_without_rows.new.self.held inside.has_refused inside.waiting.items c.frame_without_rows.new.out.items turn.0 c.args.frame.now
    c.self.invariant c.in-Ok.ensures.highest c.requires.well turn.1 turn.2 c.if-self.false

pub returns-in-Ok-clause-ok : goal.returns-in-Ok-clause-ok
returns-in-Ok-clause-ok c =
    let inside = c.self.inside in
    let turn = c.in-Ok.ensures.turn in
    let same = c.self.view_is ∙ c.make_way.ensures in
    turn_sent c.args.self.now _ c.args.frame.now inside.highest inside.session.highest inside.next inside.session.held inside.has_refused
    inside.waiting.items c.frame_without_rows.new.out.items turn.0 c.self.invariant (ap (λ (m : MemoryValue). m.highest) same)
    (ap (λ (m : MemoryValue). m.held) same) (ap (λ (m : MemoryValue). m.has_refused) same) (ap (λ (m : MemoryValue). m.waiting) same)
    c.if-self.false c.in-Ok.ensures.version turn.1 turn.2 refl refl

on_ok : {E P Q : Type 0} (result : Result (Unit {0}) E) → (P → Q) → OnOk result P → OnOk result Q
on_ok (Ok done) also is = also is
on_ok (Err e) also is = tt

pub returns-in-Err-clause-ok : goal.returns-in-Err-clause-ok
returns-in-Err-clause-ok c =
    let inside = c.self.inside in
    let same = c.self.view_is ∙ c.make_way.ensures in
    on_ok c.refuse.result (refusal_sent c.args.self.now c.refuse.new.self c.args.frame.now inside.session.highest inside.session.held _ c.in-Err.fault
    (sym (ap (λ (m : MemoryValue). m.has_refused) same) ∙ c.if-self.false)
    (c.self.invariant.highest_is ∙ ap (λ (m : MemoryValue). m.highest) same) (ap (λ (m : MemoryValue). m.held) same)
    (ap (drop inside.next) c.in-Err.ensures.same ∙ ap (λ (m : MemoryValue). m.waiting) same) c.in-Err.ensures.refused)
    c.refuse.ensures.ok
