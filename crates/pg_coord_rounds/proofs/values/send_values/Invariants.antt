use Rattle.pg_coord_rounds.proofs.Common.{◌≡◌, ◌<◌, ℕ, List, Some, length, All, MapValue, MapAtMost}
use Rattle.pg_coord_rounds.proofs.values.send_values.Given as goal

abbrev pub invariant-values : goal.invariant-values
invariant-values g l =
    let honest = g.L.Link.is_honest in
    let under = g.L.Link.is_under in
    record {
      within : All (λ v. v < length l.map.measures) l.rest;
      honest_still : honest l.fn.link → honest l.link;
      told_still : (left : List (List ℕ)) → g.L.Link.told l.fn.link ≡ Some left → g.L.Link.told l.link ≡ Some left;
      under_still : honest l.fn.link → (h : MapValue) → MapAtMost l.map.measures h.measures → under l.fn.link h → under l.link h;
    }
