use Rattle.pg_wire.proofs.Common.{◌≡◌, ◌≤◌, ◌-◌, length, vec_len, vec_capacity, so_many}
use Rattle.pg_wire.proofs.Loop.{with_front}
use Rattle.pg_wire.proofs.form.items.Given as goal

abbrev pub invariant-loop : goal.invariant-loop
invariant-loop g l = record {
  read : with_front l.items.items ((so_many (g.F.Form.kind l.width) (l.count - l.counter) l.at).read l.rest)
      ≡ (so_many (g.F.Form.kind l.width) l.count l.place).read l.bytes;
  less : length l.rest ≤ length l.bytes;
  capacity : vec_capacity l.items ≡ l.count;
  len : vec_len l.items ≡ l.counter;
}
