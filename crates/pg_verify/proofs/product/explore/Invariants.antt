use Rattle.std.proofs.Common.{◌≡◌, ◌+◌, ◌-◌, ◌*◌, ◌≤◌, length}
use Rattle.std.specs.Prelude.{map}
use Rattle.pg_verify.specs.Mirrors.Products.{IsDraft, AreWide, pair_of}
use Rattle.pg_verify.proofs.product.explore.Given as goal

abbrev pub invariant-states : goal.invariant-states
invariant-states l = record {
  draft : IsDraft l.automaton l.netlist (map pair_of l.draft.rows.keys) l.draft.slots.items l.draft.steps.items (map (λ v. v.items) l.draft.lists.items);
  wide : AreWide (length l.netlist.latches) l.draft.rows.keys;
  place : length l.draft.slots.items ≡ l.k * l.letters;
  within : l.k ≤ length l.draft.rows.keys;
  few : l.k ≤ l.most;
  room : length l.values ≡ l.netlist.greatest + 1;
  latches : length l.latches ≡ length l.netlist.latches;
}

abbrev pub decreases-states : goal.decreases-states
decreases-states l = l.most - l.k
