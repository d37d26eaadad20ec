use Rattle.pg_coord_rounds.proofs.Common.{◌≡◌, ◌++◌, ℕ, List, Some, length, Dense, Reply, IsReply, spelled_reply, Receives}
use Rattle.pg_coord_rounds.proofs.Receiving.{HasReceived}
use Rattle.pg_coord_rounds.proofs.turn.receive_reply.Given as goal

abbrev pub invariant-frames : goal.invariant-frames
invariant-frames g l =
    let told = g.L.Link.told in
    record {
      size : length l.coordinator.map.measures ≡ length l.task.game;
      row : length l.row ≡ length l.coordinator.map.bounds;
      received : Receives g.L.Link.is_honest g.L.Link.is_under l.fn.link l.link l.fn.coordinator l.coordinator;
      told_so_far : (r : Reply) (left : List (List ℕ)) → told l.fn.link ≡ Some (spelled_reply r ++ left)
          → IsReply l.task.bounds l.task.cut l.worker r left
          → l.kind ≡ Dense → HasReceived r left l.counter (told l.link) l.fn.coordinator.map.measures l.coordinator.map.measures;
    }
