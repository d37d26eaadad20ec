use Rattle.std.proofs.Common.{ap, sym, ◌∙◌, Bool, Ok, Err, length, subst, arith}
use Rattle.pg_coord_rounds.proofs.Moving.{receives_none, receives_more}
use Rattle.pg_coord_rounds.proofs.Receiving.{ComesTo, received_none, one_more, received_full}
use Rattle.pg_coord_rounds.proofs.turn.receive_reply.Goals as goal

pub frames-init : goal.frames-init
frames-init g c = record {
  size = c.requires.size;
  row = c.requires.row ∙ sym (ap length c.requires.bounds);
  received = receives_none g.L.Link.is_honest g.L.Link.is_under c.args.link.now c.args.link.now c.args.coordinator.now (λ h. h)
      (λ h m u. u);
  told_so_far = λ r left is reply dense. received_none r left (g.L.Link.told c.args.link.now) c.args.coordinator.now.map.measures is;
}

pub frames-preserved : goal.frames-preserved
frames-preserved g c =
    let inv = c.frames.invariant in
    let e = c.receive_and_join.ensures.received in
    let one = c.in-Ok-false.ensures in
    record {
      size = e.moves.size ∙ inv.size;
      row = c.receive_and_join.auto.row ∙ inv.row ∙ sym (ap length e.moves.bounds);
      received = receives_more _ _ _ _ _ _ _ _ inv.received e;
      told_so_far = λ r left is reply dense.
          let comes = one_more c.frames.coordinator.map.bounds c.args.task.now.cut c.args.worker c.args.kind r left c.frames.counter
          (g.L.Link.told c.frames.link) (g.L.Link.told c.receive_and_join.new.link) c.args.coordinator.now.map.measures
          c.frames.coordinator c.receive_and_join.new.coordinator (Ok c.in-Ok-false.field-0) (omega arith) dense
          (rw (inv.received.moves.bounds ∙ c.requires.bounds) reply) (inv.told_so_far r left is reply dense)
          (record { values = one.values; report = one.report; failing = one.failing; ended = one.ended }) in
          subst (λ (x : Bool). ComesTo r left c.frames.counter (g.L.Link.told c.receive_and_join.new.link)
          c.args.coordinator.now.map.measures c.receive_and_join.new.coordinator.map.measures (Ok x)) c.in-Ok-false.field-0-test comes;
    }

pub returns-in-Ok-true-clause-reply : goal.returns-in-Ok-true-clause-reply
returns-in-Ok-true-clause-reply g c = λ r left is reply dense.
    let inv = c.frames.invariant in
    let one = c.in-Ok-true.ensures in
    let comes = one_more c.frames.coordinator.map.bounds c.args.task.now.cut c.args.worker c.args.kind r left c.frames.counter
    (g.L.Link.told c.frames.link) (g.L.Link.told c.receive_and_join.new.link) c.args.coordinator.now.map.measures
    c.frames.coordinator c.receive_and_join.new.coordinator (Ok c.in-Ok-true.field-0) (omega arith) dense
    (rw (inv.received.moves.bounds ∙ c.requires.bounds) reply) (inv.told_so_far r left is reply dense)
    (record { values = one.values; report = one.report; failing = one.failing; ended = one.ended }) in
    subst (λ (x : Bool). ComesTo r left c.frames.counter (g.L.Link.told c.receive_and_join.new.link)
    c.args.coordinator.now.map.measures c.receive_and_join.new.coordinator.map.measures (Ok x)) c.in-Ok-true.field-0-test comes

pub returns-in-Err-clause-reply : goal.returns-in-Err-clause-reply
returns-in-Err-clause-reply g c = λ r left is reply dense.
    let inv = c.frames.invariant in
    let one = c.in-Err.ensures in
    one_more c.frames.coordinator.map.bounds c.args.task.now.cut c.args.worker c.args.kind r left c.frames.counter
    (g.L.Link.told c.frames.link) (g.L.Link.told c.receive_and_join.new.link) c.args.coordinator.now.map.measures
    c.frames.coordinator c.receive_and_join.new.coordinator (Err c.in-Err.fault) (omega arith) dense
    (rw (inv.received.moves.bounds ∙ c.requires.bounds) reply) (inv.told_so_far r left is reply dense)
    (record { values = one.values; report = one.report; failing = one.failing; ended = one.ended })

pub returns-clause-reply : goal.returns-clause-reply
returns-clause-reply g c = λ r left is reply dense.
    let task = c.args.task.now in
    received_full task.bounds task.cut c.args.worker r left c.frames.counter (g.L.Link.told c.frames.link)
    c.args.coordinator.now.map.measures
    c.frames.coordinator.map.measures (omega arith) reply (c.frames.invariant.told_so_far r left is reply dense)

pub receive_and_join-requires-clause-size : goal.receive_and_join-requires-clause-size
receive_and_join-requires-clause-size g c = c.frames.invariant.size

pub receive_and_join-requires-clause-row : goal.receive_and_join-requires-clause-row
receive_and_join-requires-clause-row g c = c.frames.invariant.row

pub returns-in-Ok-true-clause-received : goal.returns-in-Ok-true-clause-received
returns-in-Ok-true-clause-received g c = receives_more _ _ _ _ _ _ _ _ c.frames.invariant.received c.receive_and_join.ensures.received

pub returns-in-Err-clause-received : goal.returns-in-Err-clause-received
returns-in-Err-clause-received g c = receives_more _ _ _ _ _ _ _ _ c.frames.invariant.received c.receive_and_join.ensures.received

pub returns-clause-received : goal.returns-clause-received
returns-clause-received g c = c.frames.invariant.received
