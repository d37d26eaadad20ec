use Rattle.std.proofs.Common.{◌≡◌, take}
use Rattle.pg_synth.proofs.layout.marks.Given as goal

abbrev pub invariant-loop-a : goal.invariant-loop-a
invariant-loop-a l = l.list.items ≡ take l.a l.automaton.controllable
