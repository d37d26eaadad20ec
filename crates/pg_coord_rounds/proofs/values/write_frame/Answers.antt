use Rattle.pg_coord_rounds.proofs.Common.{◌≡◌, ◌≤◌, ◌<◌, ◌^◌, ◌∙◌, [], length, ap, arith, All, IsBound}
use Rattle.pg_coord_rounds.proofs.Measuring.{frame_spelled}
use Rattle.pg_coord_rounds.proofs.values.write_frame.Goals as goal

pub returns-then-not-branch-clause-frame : goal.returns-then-not-branch-clause-frame
returns-then-not-branch-clause-frame c =
    let map = c.args.map.now in
    let task = c.width.ensures.task in
    let inv = c.loop-count.invariant in
    let same : length map.bounds ≡ length c.args.task.now.bounds = ap length c.requires.bounds in
    let few : length map.bounds ≤ 32768 = (let k = c.width.ensures.few in let v = c.width.ensures.value in omega arith) in
    let are : All IsBound map.bounds = rw c.requires.bounds task.well.bounds.bounds in
    let size : length map.measures < 2 ^ 32 = (let k = c.requires.size in let v = task.well.vertices.1 in omega arith) in
    let e = c.in_ok-push_next.ensures in
    let w = e.written inv.measures inv.written in
    frame_spelled map c.args.to.kind c.push_next.new.writer c.push_next.new.next w.0 c.push_next.new.out.items c.finish.new.out.items
    (e.of.0 ∙ inv.kind) (e.of.1 ∙ inv.width) few are size w.1
    (c.finish.ensures.spelled [] w.0 w.1.writing) (c.finish.ensures.spells [] w.0 w.1.writing)

pub returns-clause-frame : goal.returns-clause-frame
returns-clause-frame c =
    let map = c.args.map.now in
    let task = c.width.ensures.task in
    let inv = c.loop-count.invariant in
    let same : length map.bounds ≡ length c.args.task.now.bounds = ap length c.requires.bounds in
    let few : length map.bounds ≤ 32768 = (let k = c.width.ensures.few in let v = c.width.ensures.value in omega arith) in
    let are : All IsBound map.bounds = rw c.requires.bounds task.well.bounds.bounds in
    let size : length map.measures < 2 ^ 32 = (let k = c.requires.size in let v = task.well.vertices.1 in omega arith) in
    frame_spelled map c.args.to.kind c.loop-count.writer c.loop-count.next inv.measures c.loop-count.out.items c.finish-2.new.out.items inv.kind inv.width few are size inv.written
    (c.finish-2.ensures.spelled [] inv.measures inv.written.writing) (c.finish-2.ensures.spells [] inv.measures inv.written.writing)
