use Rattle.std.proofs.Common.{◌∙◌, sym, ap}
use Rattle.pg_coord.specs.Memory.{MemoryValue}
use Rattle.pg_coord.proofs.Keeping.{kept_rows, rows_refused}
use Rattle.pg_coord.proofs.memory.MemoryLink.take_rows.Goals as goal

pub invariant_of-self : goal.invariant_of-self
invariant_of-self c =
    let inside = c.self.inside in
    let e = c.in-Ok.ensures in
    kept_rows inside.highest inside.session.highest c.rows_from.new.self.highest inside.next inside.session.held c.rows_from.new.self.held
    inside.has_refused c.in-Ok.taken c.args.bytes.now inside.waiting.items c.self.invariant e.highest e.rows e.turn

pub returns-in_ok-refuse-in-Err-2-clause-ok : goal.returns-in_ok-refuse-in-Err-2-clause-ok
returns-in_ok-refuse-in-Err-2-clause-ok c =
    let inside = c.self.inside in
    let e = c.in-Err.ensures in
    let view = c.self.view_is in
    rows_refused c.args.self.now c.refuse.new.self inside.session.highest inside.session.held c.args.bytes.now _ c.in-Err.field-0
    (sym (ap (λ (m : MemoryValue). m.has_refused) view) ∙ c.if-self.false)
    (c.self.invariant.highest_is ∙ ap (λ (m : MemoryValue). m.highest) view)
    (ap (λ (m : MemoryValue). m.held) view) (ap (λ (m : MemoryValue). m.waiting) view) e.fault e.refused c.in_ok-refuse-in-Err-2.ensures.ok
