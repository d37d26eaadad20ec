use Rattle.pg_satisfies_promises.proofs.NodeLists.{AreConjuncts}
use Rattle.pg_satisfies_promises.proofs.conjuncts.conjuncts_of.Given as goal

abbrev pub invariant-loop-step : goal.invariant-loop-step
invariant-loop-step l = AreConjuncts l.nodes l.whole l.waiting.items l.found.items
