use Rattle.std.proofs.Common.{Err, inr, refl, rules}
use Rattle.pg_wire.proofs.Consumed.{got_known, failed_known}
use Rattle.pg_wire.proofs.stream.read_frame.Goals as goal

pub returns-in-Ok-clause-known : goal.returns-in-Ok-clause-known
returns-in-Ok-clause-known g c =
    let w = c.in_ok-read_frame_bytes.ensures.frame (search rules) in
    inr (inr (got_known (g.R.Read.remaining c.args.input.now)
    (g.R.Read.remaining c.read_frame_bytes.new.input) c.read_frame_bytes.new.bytes.items c.in-Ok.frame w.1 w.0
    (rw c.deref.ensures.value at c.in-Ok.ensures.found)))

pub returns-clause-known : goal.returns-clause-known
returns-clause-known g c =
    let w = c.in_ok-read_frame_bytes.ensures.frame (search rules) in
    let e = c.deref.ensures.value in
    failed_known (g.R.Read.remaining c.args.input.now)
    (g.R.Read.remaining c.read_frame_bytes.new.input) c.read_frame_bytes.new.bytes.items c.in-Err.fault
    (Err c.in-Err.fault) refl w.1 w.0
    (rw e at c.in-Err.ensures.all) (rw e at c.in-Err.ensures.too_long).0 (rw e at c.in-Err.ensures.truncated).0
