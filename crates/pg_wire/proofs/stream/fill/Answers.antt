use Rattle.std.proofs.Common.{take, arith}
use Rattle.pg_wire.proofs.Consumed.{consumes_then, filled_more, filled_within}
use Rattle.pg_wire.proofs.stream.fill.Goals as goal

pub loop-filled-preserved : goal.loop-filled-preserved
loop-filled-preserved g c =
    let all = consumes_then (g.R.Read.remaining c.args.input.now) (g.R.Read.remaining c.loop-filled.input)
    (g.R.Read.remaining c.read_some.new.input) (take c.loop-filled.filled c.loop-filled.buffer)
    (take c.in_ok-more.more c.read_some.new.buffer) c.loop-filled.invariant.bytes c.in_ok-more.ensures.bytes in
    record {
      fits = λ i. omega (arith, c.type_inv.buffer i);
      within = filled_within c.loop-filled.buffer c.read_some.new.buffer _ c.loop-filled.filled c.in_ok-more.more c.loop-filled.invariant.within c.in_ok-more.ensures.bound;
      bytes = rw (filled_more c.loop-filled.buffer c.read_some.new.buffer _ c.loop-filled.filled c.in_ok-more.more c.loop-filled.invariant.within c.in_ok-more.ensures.bound) all;
    }
