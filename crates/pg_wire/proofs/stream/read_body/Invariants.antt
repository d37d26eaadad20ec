use Rattle.pg_wire.proofs.Common.{◌≡◌, ℕ, ◌+◌, List, ◌++◌, length, Consumes}
use Rattle.pg_wire.proofs.stream.read_body.Given as goal

abbrev pub invariant-loop-left : goal.invariant-loop-left
invariant-loop-left g l = record {
  body : List ℕ;
  appended : l.bytes.items ≡ l.initial.bytes.items ++ body;
  size : length body + l.left ≡ l.len;
  consumed : Consumes (g.R.Read.remaining l.initial.input) (g.R.Read.remaining l.input) body;
}

abbrev pub decreases-loop-left : goal.decreases-loop-left
decreases-loop-left g l = l.left
