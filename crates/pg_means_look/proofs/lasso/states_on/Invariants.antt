use Rattle.std.proofs.Common.{◌≡◌, ℕ, ◌+◌, ◌<◌, length, get_or}
use Rattle.pg_means_look.specs.Mirrors.Views.{automaton_of}
use Rattle.pg_means_look.proofs.lasso.states_on.Given as goal

abbrev pub invariant-loop-letter : goal.invariant-loop-letter
invariant-loop-letter l = record {
  long : length l.states.items ≡ l.letter-index + 1;
  last : get_or l.states.items l.letter-index 0 ≡ l.state;
  start : get_or l.states.items 0 0 ≡ l.automaton.start;
  steps : (i : ℕ) → i < l.letter-index
      → get_or l.states.items (i + 1) 0 ≡ (automaton_of l.automaton).target (get_or l.states.items i 0) (get_or l.letters i 0);
}
