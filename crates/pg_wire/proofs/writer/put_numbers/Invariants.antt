use Rattle.pg_wire.proofs.Common.{◌≡◌, ◌++◌, take, flat_map, word}
use Rattle.pg_wire.proofs.writer.put_numbers.Given as goal

abbrev pub invariant-loop-n : goal.invariant-loop-n
invariant-loop-n l = l.out.items ≡ l.initial.out.items ++ flat_map word (take l.n-index l.numbers)
