use Rattle.pg_wire.proofs.Common.{List, ℕ, ◌++◌, length, ◌∙◌, refl, ap, arith, line, line_with}
use Rattle.pg_wire.proofs.LinesWriting.{no_room, added}
use Rattle.pg_wire.proofs.lines_writer.VerticesWriter.push.Goals as goal

pub returns-then-room-size-clause-added : goal.returns-then-room-size-clause-added
returns-then-room-size-clause-added c = λ before ls h. (
  no_room c.args.self.now before ls c.args.out.now.items (line_with c.args.head c.args.successors.now) c.room.result _ h
      (omega (arith, c.room.ensures, ap length c.deref.ensures.value)) refl c.if-room-size.true,
  refl,
  refl,
)

pub returns-in-Ok-clause-added : goal.returns-in-Ok-clause-added
returns-in-Ok-clause-added c = λ before ls h.
    let w = c.args.self.now in
    added w.start w.count c.saturating_add-self.result before ls c.args.out.now.items c.put_line.new.out.items
    (line_with c.args.head c.args.successors.now) c.room.result _ h
    (omega (arith, c.room.ensures, ap length c.deref.ensures.value)) refl c.if-room-size.false c.saturating_add-self.ensures
    (c.in-Ok.ensures.ok ∙ ap (λ (bs : List ℕ). bs ++ line (line_with c.args.head c.args.successors.now)) c.reserve.ensures.items)
