use Rattle.pg_coord_rounds.proofs.Moving.{moves_none}
use Rattle.pg_coord_rounds.proofs.joining.join_frame.Goals as goal

pub returns-then-ne-clause-moves : goal.returns-then-ne-clause-moves
returns-then-ne-clause-moves c = moves_none c.args.coordinator.now

pub returns-then-not-is_as_wide-clause-moves : goal.returns-then-not-is_as_wide-clause-moves
returns-then-not-is_as_wide-clause-moves c = moves_none c.args.coordinator.now

pub returns-then-not-are_of_part-clause-moves : goal.returns-then-not-are_of_part-clause-moves
returns-then-not-are_of_part-clause-moves c = moves_none c.args.coordinator.now
