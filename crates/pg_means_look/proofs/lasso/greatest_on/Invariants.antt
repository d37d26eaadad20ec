use Rattle.std.proofs.Common.{◌≡◌, ℕ, ◌<◌, ◌≤◌}
use Rattle.pg_means_look.specs.Mirrors.Views.{automaton_of}
use Rattle.pg_means_look.specs.Mirrors.Places.{priority_on}
use Rattle.pg_means_look.proofs.lasso.greatest_on.Given as goal

abbrev pub invariant-loop-i : goal.invariant-loop-i
invariant-loop-i l = record {
  bounds : (j : ℕ) → l.back ≤ j → j < l.i → priority_on (automaton_of l.automaton) l.letters l.states j ≤ l.most;
  attained : (j : ℕ) × (l.back ≤ j) × (j < l.i) × (priority_on (automaton_of l.automaton) l.letters l.states j ≡ l.most);
}
