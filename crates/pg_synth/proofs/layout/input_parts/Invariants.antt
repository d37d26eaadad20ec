use Rattle.pg_synth.proofs.Common.{◌≡◌, map, range_with_len, joined}
use Rattle.pg_synth.proofs.layout.input_parts.Given as goal

abbrev pub invariant-loop-input : goal.invariant-loop-input
invariant-loop-input l = l.list.items ≡ map (λ i. joined l.controllable i 0) (range_with_len 0 l.input)
