use Rattle.pg_wire.proofs.Common.{ℕ, ◌^◌, ◌<◌, ◌≤◌, ◌-◌, length, slice_index, take, Consumes}
use Rattle.pg_wire.proofs.stream.fill.Given as goal

abbrev pub invariant-loop-filled : goal.invariant-loop-filled
invariant-loop-filled g l = record {
  fits : (i : ℕ) → slice_index l.buffer i < 2 ^ 8;
  within : l.filled ≤ length l.buffer;
  bytes : Consumes (g.R.Read.remaining l.initial.input) (g.R.Read.remaining l.input) (take l.filled l.buffer);
}

abbrev pub decreases-loop-filled : goal.decreases-loop-filled
decreases-loop-filled g l = length l.initial.buffer - l.filled
