use Rattle.pg_synth.proofs.Common.{◌≡◌, map, range_with_len, joined}
use Rattle.pg_synth.proofs.layout.output_parts.Given as goal

abbrev pub invariant-loop-output : goal.invariant-loop-output
invariant-loop-output l = l.list.items ≡ map (λ o. joined l.controllable 0 o) (range_with_len 0 l.output)
