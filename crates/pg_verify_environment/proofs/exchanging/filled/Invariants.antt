use Rattle.std.proofs.Common.{◌≡◌, ◌+◌, ◌≤◌, length, map, Some}
use Rattle.pg_hoa_automaton.specs.Mirrors.Tables.{numbered}
use Rattle.pg_verify_environment.specs.Counterparts.{end_step}
use Rattle.pg_verify_environment.specs.Mirrors.Tables.{AreFilled}
use Rattle.pg_verify_environment.proofs.exchanging.filled.Given as goal

abbrev pub invariant-loop-place : goal.invariant-loop-place
invariant-loop-place l = record {
  filled : AreFilled l.automaton l.place l.draft.slots.items l.draft.steps.items (map (λ v. v.items) l.draft.lists.items);
  few_steps : length l.draft.steps.items ≤ l.place + 1;
  few_lists : length l.draft.lists.items ≤ l.place + 1;
  end_is : numbered l.draft.steps.items (map (λ v. v.items) l.draft.lists.items) l.end ≡ Some (end_step l.automaton);
}
