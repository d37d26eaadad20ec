use Rattle.std.proofs.Common.{refl, ap, length, arith, Some}
use Rattle.pg_wire.proofs.Frames.{no_room, added}
use Rattle.pg_wire.proofs.writer.ValuesWriter.push_list.Goals as goal

pub returns-then-room-list_size-clause-added : goal.returns-then-room-list_size-clause-added
returns-then-room-list_size-clause-added c = λ before ms h. (
  no_room c.args.self.now before ms c.args.out.now.items (c.args.vertex, Some c.args.list.now) c.room.result c.list_size.result h
      (omega (arith, c.room.ensures, ap length c.deref.ensures.value)) (c.list_size.ensures.size c.args.vertex) c.if-room-list_size.true,
  refl,
  refl,
)

pub returns-in-Ok-clause-added : goal.returns-in-Ok-clause-added
returns-in-Ok-clause-added c = λ before ms h.
    let w = c.args.self.now in
    added w.kind w.width w.start w.count c.saturating_add-self.result before ms c.args.out.now.items c.put_list.new.out.items
    (c.args.vertex, Some c.args.list.now) c.room.result c.list_size.result h
    (omega (arith, c.room.ensures, ap length c.deref.ensures.value))
    (c.list_size.ensures.size c.args.vertex) c.if-room-list_size.false c.saturating_add-self.ensures c.in-Ok.ensures.ok
