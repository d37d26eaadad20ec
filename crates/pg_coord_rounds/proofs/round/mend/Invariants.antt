use Rattle.std.proofs.Common.{◌≡◌, ◌-◌, ℕ, List, Some, false}
use Rattle.pg_coord_rounds.proofs.round.mend.Given as goal

abbrev pub invariant-loop-state : goal.invariant-loop-state
invariant-loop-state g l =
    let honest = g.L.Link.is_honest in
    record {
      honest_still : honest l.fn.link → honest l.link;
      unused : l.state.in_use ≡ false;
      told_still : (left : List (List ℕ)) → g.L.Link.told l.fn.link ≡ Some left → (g.L.Link.told l.link ≡ Some left) × (l.state.kind ≡ l.fn.state.kind)
          × (l.state.restarts ≡ l.fn.state.restarts);
    }

abbrev pub decreases-loop-state : goal.decreases-loop-state
decreases-loop-state g l = 3 - l.state.restarts
