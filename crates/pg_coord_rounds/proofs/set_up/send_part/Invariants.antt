use Rattle.pg_coord_rounds.proofs.Common.{◌≡◌, ◌-◌, ℕ, List, Some, length, MapValue, IsClosedMap}
use Rattle.pg_coord_rounds.proofs.set_up.send_part.Given as goal

abbrev pub invariant-frames : goal.invariant-frames
invariant-frames g l =
    let honest = g.L.Link.is_honest in
    let under = g.L.Link.is_under in
    record {
      honest_still : honest l.fn.link → honest l.link;
      under_still : honest l.fn.link → (h : MapValue) → IsClosedMap l.task h → under l.fn.link h → under l.link h;
      told_still : (left : List (List ℕ)) → g.L.Link.told l.fn.link ≡ Some left → g.L.Link.told l.link ≡ Some left;
    }

abbrev pub decreases-frames : goal.decreases-frames
decreases-frames g l = length l.task.game - l.next
