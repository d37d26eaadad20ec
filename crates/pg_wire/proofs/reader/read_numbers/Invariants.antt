use Rattle.pg_wire.proofs.Common.{◌≡◌, ◌+◌, ◌*◌, ◌-◌, length, take, components, so_many}
use Rattle.pg_wire.proofs.Loop.{with_front}
use Rattle.pg_wire.proofs.reader.read_numbers.Given as goal

abbrev pub invariant-loop-place : goal.invariant-loop-place
invariant-loop-place l = record {
  read : with_front (take l.place-index l.row)
      ((so_many components (length l.initial.row - l.place-index) 0).read l.rest) ≡ (so_many components (length l.initial.row) 0).read l.bytes;
  less : length l.rest + 4 * l.place-index ≡ length l.bytes;
}
