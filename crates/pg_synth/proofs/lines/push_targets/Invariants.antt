use Rattle.pg_synth.proofs.Common.{◌≡◌, ◌++◌, map, range_with_len, target}
use Rattle.pg_synth.proofs.lines.push_targets.Given as goal

abbrev pub invariant-loop-letter : goal.invariant-loop-letter
invariant-loop-letter l =
    l.list.items ≡ l.initial.list.items ++ map (target l.automaton l.state) (range_with_len 0 l.letter)
