use Rattle.pg_world.proofs.Common.{◌≡◌, length, drop, map, update_value, ComeFrom}
use Rattle.pg_world.proofs.replica.clear.Given as goal

abbrev pub invariant-loop-number : goal.invariant-loop-number
invariant-loop-number l = record {
  size : length l.greatest ≡ length l.fn.greatest;
  from : ComeFrom (map update_value l.updates) (drop l.number-index l.taken) l.greatest;
}
