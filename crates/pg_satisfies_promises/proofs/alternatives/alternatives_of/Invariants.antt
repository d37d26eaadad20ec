use Rattle.pg_satisfies_promises.proofs.Rows.{AreFirstRows}
use Rattle.pg_satisfies_promises.proofs.alternatives.alternatives_of.Given as goal

abbrev pub invariant-loop-place : goal.invariant-loop-place
invariant-loop-place l = AreFirstRows l.fn.nodes.items l.nodes.items l.rows.items l.place
