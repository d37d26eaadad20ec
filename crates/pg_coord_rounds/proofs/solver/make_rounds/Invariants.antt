use Rattle.pg_coord_rounds.proofs.Common.{◌≡◌, ◌+◌, ◌≤◌, ℕ, List, length, All, true, false, cond, game_line, IsClosed, map_weight, IsFoundFrom}
use Rattle.pg_coord_rounds.proofs.Common.{AreRounds, Reply, AllInStep, AllTell}
use Rattle.pg_coord_rounds.proofs.Taken.{HasTaken}
use Rattle.pg_coord_rounds.proofs.solver.make_rounds.Given as goal

abbrev pub invariant-rounds : goal.invariant-rounds
invariant-rounds g l =
    let honest = g.L.Link.is_honest in
    let under = g.L.Link.is_under in
    record {
      same_len : length l.states ≡ length l.links;
      same_count : length l.links ≡ length l.fn.links;
      found : IsFoundFrom (All honest l.fn.links × AllInStep under l.task l.fn.coordinator.map l.fn.states l.fn.links) l.task.game l.fn.coordinator.map l.coordinator.map;
      honest_still : All honest l.fn.links → All honest l.links;
      in_step : All honest l.fn.links → AllInStep under l.task l.fn.coordinator.map l.fn.states l.fn.links
          → AllInStep under l.task l.coordinator.map l.states l.links;
      taken : (replies : ℕ → List Reply) → AllTell g.L.Link.told l.task l.fn.states l.fn.links replies
          → HasTaken g.L.Link.told l.task replies l.rounds l.states l.links l.fn.coordinator.map.measures l.coordinator.map.measures;
      rising : l.coordinator.rose ≡ true
          → l.rounds + map_weight l.coordinator.map.bounds l.coordinator.map.measures ≤ map_weight l.fn.coordinator.map.bounds l.fn.coordinator.map.measures;
      quiet : l.coordinator.rose ≡ false
          → AreRounds l.rounds l.fn.coordinator.map l.coordinator.map × IsClosed l.coordinator.map.bounds (game_line l.task.game) l.coordinator.map.measures;
    }

abbrev pub decreases-rounds : goal.decreases-rounds
decreases-rounds g l = map_weight l.coordinator.map.bounds l.coordinator.map.measures + cond l.coordinator.rose 1 0
