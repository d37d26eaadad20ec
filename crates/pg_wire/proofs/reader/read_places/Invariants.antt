use Rattle.pg_wire.proofs.Common.{◌≡◌, ◌≤◌, ◌<◌, ◌-◌, ℕ, List, length, get_or, All, places, so_many, component_in}
use Rattle.pg_wire.proofs.Filling.{Pair}
use Rattle.pg_wire.proofs.Loop.{with_front}
use Rattle.pg_wire.proofs.reader.read_places.Given as goal

abbrev pub invariant-loop : goal.invariant-loop
invariant-loop l = record {
  front : List Pair;
  read : with_front front ((so_many (places l.width) (l.count - l.counter) l.at).read l.rest) ≡ (so_many (places l.width) l.count 0).read l.bytes;
  past : All (λ (p : Pair). p.0 < l.at) front;
  filled : (k : ℕ) → k < length l.row → get_or l.row k 0 ≡ component_in front k;
  less : length l.rest ≤ length l.bytes;
}
