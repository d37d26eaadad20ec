use Rattle.pg_satisfies_promises.proofs.Tries.{AreFirstPromises}
use Rattle.pg_satisfies_promises.proofs.splitting.promises_of.Given as goal

abbrev pub invariant-loop-alternative : goal.invariant-loop-alternative
invariant-loop-alternative l =
    AreFirstPromises l.initial.nodes.items l.nodes.items l.alternative-items l.alternative-index l.promises.items
