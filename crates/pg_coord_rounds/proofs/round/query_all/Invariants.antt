use Rattle.pg_coord_rounds.proofs.Common.{◌≡◌, ℕ, List, length, All, Reply, AllTell, AllInStep}
use Rattle.pg_coord_rounds.proofs.LinkStates.{Halves}
use Rattle.pg_coord_rounds.proofs.Replying.{TellsNext, IsQueriedNext}
use Rattle.pg_coord_rounds.proofs.round.query_all.Given as goal

abbrev pub invariant-loop-i : goal.invariant-loop-i
invariant-loop-i g l =
    let honest = g.L.Link.is_honest in
    let under = g.L.Link.is_under in
    record {
      same_len : length l.states ≡ length l.links;
      same_count : length l.links ≡ length l.fn.links;
      honest_still : All honest l.fn.links → All honest l.links;
      told_done : (replies : ℕ → List Reply) → AllTell g.L.Link.told l.task l.fn.states l.fn.links replies
          → Halves (TellsNext g.L.Link.told l.task replies) (IsQueriedNext g.L.Link.told l.task replies) l.i l.states l.links;
      in_step : All honest l.fn.links → AllInStep under l.task l.coordinator.map l.fn.states l.fn.links
          → AllInStep under l.task l.coordinator.map l.states l.links;
    }
