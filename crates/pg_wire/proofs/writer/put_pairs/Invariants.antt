use Rattle.pg_wire.proofs.Common.{◌≡◌, ◌++◌, take, flat_map, pair, nonzero}
use Rattle.pg_wire.proofs.writer.put_pairs.Given as goal

abbrev pub invariant-loop-place : goal.invariant-loop-place
invariant-loop-place l = l.out.items ≡ l.initial.out.items ++ flat_map pair (nonzero (take l.place l.numbers))
