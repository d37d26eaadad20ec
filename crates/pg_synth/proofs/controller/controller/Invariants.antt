use Rattle.pg_synth.proofs.Common.{◌≡◌, ◌≤◌, ◌*◌, ◌-◌, length, input_letters, IsDraft}
use Rattle.pg_synth.proofs.controller.controller.Given as goal

abbrev pub invariant-loop-number : goal.invariant-loop-number
invariant-loop-number l = record {
  draft : IsDraft l.automaton l.synth.game l.solution l.draft.states.keys l.draft.replies.items;
  within : l.number ≤ length l.draft.states.keys;
  whole : length l.draft.replies.items ≡ l.number * input_letters l.automaton;
}

abbrev pub decreases-loop-number : goal.decreases-loop-number
decreases-loop-number l = l.automaton.states - l.number
