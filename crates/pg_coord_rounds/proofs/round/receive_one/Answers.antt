use Rattle.pg_coord_rounds.proofs.Common.{◌≡◌, true, false, on_ok_weaker, map_transitive}
use Rattle.pg_coord_rounds.proofs.Moving.{moves_none}
use Rattle.pg_coord_rounds.proofs.Replying.{not_received, reply_received, failure_received}
use Rattle.pg_coord_rounds.proofs.round.receive_one.Goals as goal
use Rattle.pg_coord_rounds.proofs.round.receive_one.Goals.{then-not-state-via-then-not-state, then-not-state-via-else-not-state+then-not-state-2}

pub returns-then-not-state : goal.returns-then-not-state
returns-then-not-state g c = record {
  honest = λ h. h;
  moves = moves_none _;
  in_step = λ ho s. s;
  least = λ ho s h closed le. le;
  told = λ rs h queried.
      let unused : c.args.state.now.in_use ≡ false =
      elim c.then-not-state.branch [
        | then-not-state-via-then-not-state w ↦ let unused = w.if-not-state.true in cc
        | then-not-state-via-else-not-state+then-not-state-2 w ↦ let was = queried w.if-not-state.false in
            let not = w.if-not-state-2.true in absurd (cc)
      ] in
      not_received c.args.task.now c.args.worker rs c.args.state.now (g.L.Link.told c.args.link.now) c.args.coordinator.now.map.measures h
      unused;
}

pub returns-in-Ok : goal.returns-in-Ok
returns-in-Ok g c =
    let told = g.L.Link.told in
    let received = c.receive_reply.ensures.received in
    let used : c.args.state.now.in_use ≡ true = c.if-not-state.false in
    record {
      honest = received.honest;
      moves = received.moves;
      in_step = λ ho s used h closed le.
          received.under ho h (s used h closed
          (map_transitive c.args.coordinator.now.map.measures c.receive_reply.new.coordinator.map.measures h.measures received.moves.above
          le));
      least = λ ho s h closed le. received.least ho h (s used h closed le) le;
      told = λ rs h queried.
          reply_received c.args.task.now c.args.worker rs c.args.state.now (told c.args.link.now) (told c.receive_reply.new.link)
          c.args.coordinator.now.map.measures
          c.receive_reply.new.coordinator.map.measures h used (λ r left is reply. c.in-Ok.ensures.reply r left is reply h.kind);
    }

pub returns-in-Err-OutOfMemory : goal.returns-in-Err-OutOfMemory
returns-in-Err-OutOfMemory g c =
    let received = c.receive_reply.ensures.received in
    record {
      honest = received.honest;
      moves = received.moves;
      in_step = tt;
      least = λ ho s h closed le. received.least ho h (s c.if-not-state.false h closed le) le;
      told = λ rs h queried. tt;
    }

pub returns-in-Err-Failed : goal.returns-in-Err-Failed
returns-in-Err-Failed g c =
    let told = g.L.Link.told in
    let received = c.receive_reply.ensures.received in
    record {
      honest = λ ho. c.mend.ensures.honest (received.honest ho);
      moves = received.moves;
      in_step = on_ok_weaker c.mend.result (λ mended ho s. mended (received.honest ho) c.receive_reply.new.coordinator.map)
          c.mend.ensures.in_step;
      least = λ ho s h closed le. received.least ho h (s c.if-not-state.false h closed le) le;
      told = λ rs h queried.
          failure_received c.args.task.now c.args.worker rs c.args.state.now c.mend.new.state (told c.args.link.now)
          (told c.receive_reply.new.link) (told c.mend.new.link)
          c.args.coordinator.now.map.measures c.receive_reply.new.coordinator.map.measures c.mend.result h c.if-not-state.false
          (λ r left is reply. rw c.in-Err-Failed.field-0-is at c.in-Err-Failed.ensures.reply r left is reply h.kind)
          (λ left is dense. c.mend.ensures.told left is dense);
    }
