use Rattle.pg_synth.proofs.Common.{sym}
use Rattle.pg_synth.proofs.Places.{deciding_below}
use Rattle.pg_synth.proofs.place.priority_of.Goals as goal

pub set_priority-requires-clause-below : goal.set_priority-requires-clause-below
set_priority-requires-clause-below c =
    deciding_below c.args.shape c.args.met.now c.in-Some.set c.args.sets c.requires.below (sym c.in-Some.ensures)
