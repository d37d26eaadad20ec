use Rattle.pg_aiger_reader.proofs.Common.{latches_at, reset_fault}
use Rattle.pg_aiger_reader.proofs.Latches.{latches_go_on, latches_stop, latches_done, reset_goes_on, reset_stops, reset_done}
use Rattle.pg_aiger_reader.specs.Mirrors.Items.{latch_line}
use Rattle.pg_aiger_reader.proofs.reader.latches_of.Goals as goal

pub returns-then-line-ne0 : goal.returns-then-line-ne0
returns-then-line-ne0 c = (
  latches_stop c.loop-position.latches.items c.args.lines.now c.loop-position.position (latch_line 0 0 0) (latches_at c.args.lines.now)
      c.loop-position-test.true c.if-line-ne0.true c.loop-position.invariant.0,
  reset_stops c.args.lines.now c.loop-position.position (latch_line 0 0 0) (reset_fault 0 c.args.lines.now) c.loop-position-test.true
      c.if-line-ne0.true c.loop-position.invariant.1,
)

pub loop-position-preserved : goal.loop-position-preserved
loop-position-preserved c = (
  rw c.in_ok-push.ensures.items (latches_go_on c.loop-position.latches.items c.args.lines.now c.loop-position.position (latch_line 0 0 0)
      (latches_at c.args.lines.now) c.loop-position-test.true c.if-line-ne0.false c.loop-position.invariant.0),
  reset_goes_on c.args.lines.now c.loop-position.position (latch_line 0 0 0) (reset_fault 0 c.args.lines.now) c.loop-position-test.true
      c.if-line-ne0.false c.loop-position.invariant.1,
)

pub returns : goal.returns
returns c = (
  latches_done c.loop-position.latches.items c.args.lines.now c.loop-position.position (latches_at c.args.lines.now) c.loop-position-test.false
      c.loop-position.invariant.0,
  reset_done c.args.lines.now c.loop-position.position (reset_fault 0 c.args.lines.now) c.loop-position-test.false c.loop-position.invariant.1,
)
