use Rattle.std.proofs.Common.{◌≡◌, ◌≢◌, ◌+◌, ◌*◌, ◌%◌, ◌<◌, ◌≤◌, length}
use Rattle.std.specs.Prelude.{map}
use Rattle.pg_verify.specs.Mirrors.Products.{IsDraft, AreWide, AreFilled, pair_of, pair_at}
use Rattle.pg_verify.proofs.product.push_state.Given as goal

abbrev pub invariant-loop-input : goal.invariant-loop-input
invariant-loop-input l = record {
  draft : IsDraft l.automaton l.netlist (map pair_of l.draft.rows.keys) l.draft.slots.items l.draft.steps.items (map (λ v. v.items) l.draft.lists.items);
  wide : AreWide (length l.netlist.latches) l.draft.rows.keys;
  place : length l.draft.slots.items ≡ l.k * l.letters + l.input;
  within : l.k < length l.draft.rows.keys;
  few : length l.draft.rows.keys ≤ 65535 + l.input;
  room : length l.values ≡ l.netlist.greatest + 1;
  latches : length l.latches ≡ length l.netlist.latches;
  filled : l.input % 64 ≢ 0 → AreFilled l.netlist (pair_at (map pair_of l.draft.rows.keys) l.k).latches l.input l.values;
}
