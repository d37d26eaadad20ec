use Rattle.pg_coord_rounds.proofs.Common.{◌≡◌, ℕ, List, length, All, MapValue, IsInStep, Reply, TellReplies, received}
use Rattle.pg_coord_rounds.proofs.LinkStates.{Halves}
use Rattle.pg_coord_rounds.proofs.Replying.{TellsFirst, TellsNext}
use Rattle.pg_coord_rounds.proofs.round.set_up_all.Given as goal

abbrev pub invariant-loop-i : goal.invariant-loop-i
invariant-loop-i g l =
    let honest = g.L.Link.is_honest in
    let under = g.L.Link.is_under in
    record {
      same_len : length l.states ≡ length l.links;
      same_count : length l.links ≡ length l.fn.links;
      honest_still : All honest l.fn.links → All honest l.links;
      unset : Halves (λ k state link. state.restarts ≡ 0) (λ k state link. Unit {0}) l.i l.states l.links;
      told_done : (replies : ℕ → List Reply) → TellReplies g.L.Link.told l.task.bounds l.task.cut l.fn.links replies
          → Halves (TellsFirst g.L.Link.told l.task replies) (TellsNext g.L.Link.told l.task (λ k. received 3 (replies k))) l.i l.states
          l.links;
      in_step : All honest l.fn.links
          → Halves (λ k state link. Unit {0}) (λ k state link. (map : MapValue) → IsInStep under l.task map state link) l.i l.states l.links;
    }
