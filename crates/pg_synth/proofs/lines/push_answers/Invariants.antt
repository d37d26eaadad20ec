use Rattle.pg_synth.proofs.Common.{◌≡◌, ◌++◌, map, range_with_len, place_identifier, Answer}
use Rattle.pg_synth.proofs.lines.push_answers.Given as goal

abbrev pub invariant-loop-input : goal.invariant-loop-input
invariant-loop-input l =
    l.list.items ≡ l.initial.list.items ++ map (λ i. place_identifier l.automaton (Answer l.state i)) (range_with_len 0 l.input)
