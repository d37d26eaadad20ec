use Rattle.std.proofs.Common.{refl}
use Rattle.pg_coord_rounds.proofs.Moving.{moves_step, raise_steps, raise_least, raise_above}
use Rattle.pg_coord_rounds.proofs.coordinator_map.CoordinatorMap.raise.Goals as goal

pub returns-clause-moves : goal.returns-clause-moves
returns-clause-moves c =
    let e = c.raise-rose.ensures in
    moves_step _ _ c.raise-rose.result
    (raise_steps _ _ c.raise-rose.result c.args.v _ c.requires.v c.requires.fits e.bounds e.size e.join.first e.rose e.same) refl

pub returns-clause-above : goal.returns-clause-above
returns-clause-above c = let e = c.raise-rose.ensures in raise_above _ _ c.raise-rose.result c.args.v _ c.requires.v e.rose e.stays e.same

pub returns-clause-least : goal.returns-clause-least
returns-clause-least c = let e = c.raise-rose.ensures in raise_least _ _ c.raise-rose.result c.args.v _ c.requires.v e.rose e.same
