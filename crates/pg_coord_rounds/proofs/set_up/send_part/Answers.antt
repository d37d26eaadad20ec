use Rattle.pg_coord_rounds.proofs.Common.{◌≡◌, rules, err_from_is_err_and, frame_with, Spells}
use Rattle.pg_coord_rounds.proofs.Gathering.{closed_at_all, sent_lines}
use Rattle.pg_coord_rounds.proofs.set_up.send_part.Goals as goal

pub frames-preserved-in_ok-send : goal.frames-preserved-in_ok-send
frames-preserved-in_ok-send g c =
    let told = g.L.Link.told in
    let inv = c.frames.invariant in
    let frame = c.in_ok-after.ensures.frame in
    let bytes : c.as_slice.result.now ≡ c.write_lines.new.out.items = search rules in
    let spelled : Spells (frame_with frame.lines) c.as_slice.result.now = rw bytes frame.spelled in
    record {
      honest_still = λ h. c.send.ensures.honest (inv.honest_still h);
      under_still = λ h m closed u.
          c.in_ok-send.ensures.under (inv.honest_still h) (frame_with frame.lines) spelled m
          (inv.under_still h m closed u, closed_at_all c.args.task.now m frame.next frame.lines closed frame.of_game);
      told_still = λ left is.
          (sent_lines frame.lines (told c.frames.link) (told c.send.new.self) _ left (c.in_ok-send.ensures.told (frame_with frame.lines) spelled)
          (inv.told_still left is)).1;
    }

pub returns-in_err-send-clause-told : goal.returns-in_err-send-clause-told
returns-in_err-send-clause-told g c = λ left is.
    let told = g.L.Link.told in
    let frame = c.in_ok-after.ensures.frame in
    let bytes : c.as_slice.result.now ≡ c.write_lines.new.out.items = search rules in
    let spelled : Spells (frame_with frame.lines) c.as_slice.result.now = rw bytes frame.spelled in
    let p = err_from_is_err_and c.from_residual-in_err-send.result c.from_residual-in_err-send.ensures.1 in
    rw (p.1, p.2)
    (sent_lines frame.lines (told c.frames.link) (told c.send.new.self) _ left (c.in_err-send.ensures.told (frame_with frame.lines) spelled)
    (c.frames.invariant.told_still left is))
