use Rattle.pg_coord_rounds.proofs.Common.{◌≡◌, ℕ, List, take, length, All, MapValue, MapAtMost, IsClosedMap, Moves, AllInStep, Reply, measures_of}
use Rattle.pg_coord_rounds.proofs.Common.{AllTell, AllQueried, JoinsEach}
use Rattle.pg_coord_rounds.proofs.LinkStates.{Halves}
use Rattle.pg_coord_rounds.proofs.Replying.{IsQueriedNext, IsReceivedNext}
use Rattle.pg_coord_rounds.proofs.round.receive_all.Given as goal

abbrev pub invariant-loop-i : goal.invariant-loop-i
invariant-loop-i g l =
    let honest = g.L.Link.is_honest in
    let under = g.L.Link.is_under in
    record {
      same_len : length l.states ≡ length l.links;
      same_count : length l.links ≡ length l.fn.links;
      honest_still : All honest l.fn.links → All honest l.links;
      bounds : l.coordinator.map.bounds ≡ l.task.bounds;
      size : length l.coordinator.map.measures ≡ length l.task.game;
      moves : Moves l.fn.coordinator l.coordinator;
      told_done : (replies : ℕ → List Reply) → AllTell g.L.Link.told l.task l.fn.states l.fn.links replies
          → AllQueried l.fn.states l.fn.links
          → Halves (IsQueriedNext g.L.Link.told l.task replies) (IsReceivedNext g.L.Link.told l.task replies) l.i l.states l.links
          × JoinsEach l.fn.coordinator.map.measures l.i (λ k. measures_of (take 1 (replies k))) l.coordinator.map.measures;
      in_step : All honest l.fn.links → AllInStep under l.task l.fn.coordinator.map l.fn.states l.fn.links
          → AllInStep under l.task l.coordinator.map l.states l.links;
      least : All honest l.fn.links → AllInStep under l.task l.fn.coordinator.map l.fn.states l.fn.links → (h : MapValue)
          → IsClosedMap l.task h → MapAtMost l.fn.coordinator.map.measures h.measures → MapAtMost l.coordinator.map.measures h.measures;
    }
