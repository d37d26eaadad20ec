use Rattle.pg_worker.proofs.Common.{◌∙◌, part_line}
use Rattle.pg_worker.proofs.Runs.{same_lines, lift_on, listed_more}
use Rattle.pg_worker.proofs.lifting.lift_turn.Goals as goal

pub loop-preserved : goal.loop-preserved
loop-preserved c =
    let i = c.loop.invariant in
    let old = c.args.lifter.now in
    let new = c.lift_next.new.self in
    let lines = part_line old.lines in
    let bs = old.map.bounds in
    let f = old.map.measures in
    let g = c.loop.lifter.map.measures in
    let next = c.in-Some.ensures.lifted in
    let lift = lift_on old c.loop.lifter new c.in-Some.v i.same next in
    record {
      same = same_lines old c.loop.lifter new i.same next.same;
      room = c.add.ensures.count ∙ i.room;
      listed = listed_more bs lines f g new.map.measures c.loop.lifted.vertices c.add.new.self.vertices c.in-Some.v c.loop.counter
          lift.0 lift.1 c.add.ensures.there c.add.ensures.more c.add.ensures.only i.listed;
    }

pub returns-clause-quiet : goal.returns-clause-quiet
returns-clause-quiet c =
    let s = c.loop.invariant.same in
    rw c.is_quiet.ensures.same (rw (s.bounds, s.lines) at c.is_quiet.ensures.quiet)
