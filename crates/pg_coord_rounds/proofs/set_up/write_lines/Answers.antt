use Rattle.std.proofs.Common.{[]}
use Rattle.pg_coord_rounds.proofs.Gathering.{lines_spelled}
use Rattle.pg_coord_rounds.proofs.set_up.write_lines.Goals as goal

pub returns-then-len-clause-frame : goal.returns-then-len-clause-frame
returns-then-len-clause-frame c =
    let w = c.in_ok-push_line.ensures in
    lines_spelled c.args.task.now c.push_line.new.writer _ w.0 c.push_line.new.out.items c.finish.new.out.items w.1
    (c.finish.ensures.spelled [] w.0 w.1.writing) (c.finish.ensures.spells [] w.0 w.1.writing)

pub returns-clause-frame : goal.returns-clause-frame
returns-clause-frame c =
    let inv = c.loop-number.invariant in
    lines_spelled c.args.task.now c.loop-number.writer c.loop-number.number inv.lines c.loop-number.out.items c.finish-2.new.out.items inv.written
    (c.finish-2.ensures.spelled [] inv.lines inv.written.writing) (c.finish-2.ensures.spells [] inv.lines inv.written.writing)
