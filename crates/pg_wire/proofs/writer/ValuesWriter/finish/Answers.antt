use Rattle.std.proofs.Common.{◌≡◌, ◌∙◌, length, arith, ap}
use Rattle.pg_wire.proofs.Frames.{fields, front_written, finished}
use Rattle.pg_wire.proofs.writer.ValuesWriter.finish.Goals as goal

pub returns-then-len-self-ge-FRONT-clause-spelled : goal.returns-then-len-self-ge-FRONT-clause-spelled
returns-then-len-self-ge-FRONT-clause-spelled c = λ before ms h.
    let w = c.args.self in
    let len : c.args.out.now.len ≡ length c.args.out.now.items = omega (arith, c.as_mut_slice.ensures.len, ap length c.as_mut_slice.ensures.value) in
    front_written c.as_mut_slice.result.now c.args.out.now.items before h.front c.put_front.new.front
    (fields w.kind ms) w.start c.args.out.now.len _ c.as_mut_slice.ensures.value h.whole h.start h.front_size
    (ap length c.put_front.ensures) len (omega arith)
    ∙ finished w before ms c.args.out.now.items c.put_front.new.front c.min-len.result h
    (omega (arith, len, c.min-len.ensures, c.saturating_sub-len.ensures, c.saturating_sub.ensures, c.len.ensures)) c.put_front.ensures
