use Rattle.pg_synth.proofs.Common.{◌≡◌, ◌<◌, ◌+◌, ◌*◌, length, input_letters, IsDraft, state_of}
use Rattle.pg_synth.proofs.controller.MachineDraft.push_row.Given as goal

abbrev pub invariant-loop-input : goal.invariant-loop-input
invariant-loop-input l = record {
  draft : IsDraft l.automaton l.synth.game l.solution l.self.states.keys l.self.replies.items;
  number : l.number < length l.self.states.keys;
  state : state_of l.self.states.keys l.number ≡ l.state;
  whole : length l.self.replies.items ≡ l.number * input_letters l.automaton + l.input;
}
