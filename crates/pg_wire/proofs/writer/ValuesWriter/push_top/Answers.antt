use Rattle.std.proofs.Common.{List, ℕ, ◌++◌, ◌∙◌, sym, refl, ap, length, arith, None}
use Rattle.pg_wire.proofs.Frames.{no_room, added, top_is}
use Rattle.pg_wire.proofs.writer.ValuesWriter.push_top.Goals as goal

pub returns-then-room-top_size-clause-added : goal.returns-then-room-top_size-clause-added
returns-then-room-top_size-clause-added c = λ before ms h. (
  no_room c.args.self.now before ms c.args.out.now.items (c.args.vertex, None) c.room.result c.top_size.result h
      (omega (arith, c.room.ensures, ap length c.deref.ensures.value)) (c.top_size.ensures c.args.vertex) c.if-room-top_size.true,
  refl,
  refl,
)

pub returns-in-Ok-clause-added : goal.returns-in-Ok-clause-added
returns-in-Ok-clause-added c = λ before ms h.
    let w = c.args.self.now in
    added w.kind w.width w.start w.count c.saturating_add-self.result before ms c.args.out.now.items c.put_tagged.new.out.items
    (c.args.vertex, None) c.room.result c.top_size.result h (omega (arith, c.room.ensures, ap length c.deref.ensures.value))
    (c.top_size.ensures c.args.vertex) c.if-room-top_size.false c.saturating_add-self.ensures
    (c.in-Ok.ensures.ok ∙ ap (λ (bs : List ℕ). c.args.out.now.items ++ bs) (sym (top_is w.kind c.args.vertex)))
