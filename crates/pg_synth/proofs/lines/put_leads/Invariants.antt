use Rattle.pg_synth.proofs.Common.{◌≡◌, map, range_with_len, joined, target}
use Rattle.pg_synth.proofs.lines.put_leads.Given as goal

abbrev pub invariant-loop-other : goal.invariant-loop-other
invariant-loop-other l =
    l.list.items ≡ map (λ o. target l.automaton l.state (joined l.automaton.controllable l.input o)) (range_with_len 0 l.other-index)
