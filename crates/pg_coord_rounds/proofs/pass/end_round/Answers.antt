use Rattle.pg_coord_rounds.proofs.Moving.{moves_none}
use Rattle.pg_coord_rounds.proofs.Ends.{lifts_under}
use Rattle.pg_coord_rounds.proofs.pass.end_round.Goals as goal

pub returns-else-not-coordinator-clause-moves : goal.returns-else-not-coordinator-clause-moves
returns-else-not-coordinator-clause-moves c = moves_none c.args.coordinator.now

pub returns-then-not-coordinator-clause-least : goal.returns-then-not-coordinator-clause-least
returns-then-not-coordinator-clause-least c = λ h closed le.
    lifts_under c.args.task.now c.args.coordinator.now.map c.pass.new.coordinator.map h c.requires.bounds c.requires.size
    (rw (← c.game.ensures.value) c.pass.ensures.under) closed le

pub returns-then-not-coordinator-clause-closed : goal.returns-then-not-coordinator-clause-closed
returns-then-not-coordinator-clause-closed c = λ still. rw (← c.game.ensures.value) (c.pass.ensures.closed still)
