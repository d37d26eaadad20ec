use Rattle.pg_wire.proofs.Common.{◌≡◌, ◌≤◌, length, take, nonzero}
use Rattle.pg_wire.proofs.kind.nonzero_len.Given as goal

abbrev pub invariant-loop-n : goal.invariant-loop-n
invariant-loop-n l = record {
  count : l.count ≡ length (nonzero (take l.n-index l.list));
  few : l.count ≤ l.n-index;
}
