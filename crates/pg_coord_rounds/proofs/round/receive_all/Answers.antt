use Rattle.pg_coord_rounds.proofs.Common.{rules, ◌≡◌, ◌<◌, ◌≤◌, ℕ, take, length, length-set, ◌∙◌, arith, subst, All-set, measures_of, JoinsEach}
use Rattle.pg_coord_rounds.proofs.Moving.{moves_none, moves_more}
use Rattle.pg_coord_rounds.proofs.LinkStates.{AllInStep-set, all_in_step_above, halves_step}
use Rattle.pg_coord_rounds.proofs.Replying.{IsQueriedNext, IsReceivedNext, each_none, each_more}
use Rattle.pg_coord_rounds.proofs.round.receive_all.Goals as goal

pub loop-i-init : goal.loop-i-init
loop-i-init g c = record {
  same_len = search rules;
  same_count = search rules;
  honest_still = λ h. h;
  bounds = search rules;
  size = search rules;
  moves = moves_none _;
  told_done = λ replies tell queried. (
    λ k d e lt. ((λ l. absurd (omega arith)), λ le. (tell k d e lt, queried k d e lt)),
    each_none c.args.coordinator.now.map.measures (λ k. measures_of (take 1 (replies k))),
  );
  in_step = λ h s. s;
  least = λ h s m closed le. le;
}

pub loop-i-preserved : goal.loop-i-preserved
loop-i-preserved g c =
    let honest = g.L.Link.is_honest in
    let under = g.L.Link.is_under in
    let inv = c.loop-i.invariant in
    let within : c.loop-i.i < length c.loop-i.links = search rules in
    let moves = c.receive_one.ensures.moves in
    record {
      same_len = search (rules, length-set);
      same_count = search (rules, length-set);
      honest_still = λ h. All-set honest c.loop-i.links c.loop-i.i c.receive_one.new.link
          (c.receive_one.ensures.honest (inv.honest_still h c.loop-i.i _ within)) (inv.honest_still h);
      bounds = moves.bounds ∙ inv.bounds;
      size = moves.size ∙ inv.size;
      moves = moves_more _ _ _ inv.moves moves;
      told_done = λ replies tell queried.
          let here : c.loop-i.i ≤ c.loop-i.i = omega arith in
          let done = inv.told_done replies tell queried in
          let next = c.in_ok-receive_one.ensures.told (replies c.loop-i.i) ((done.0 c.loop-i.i _ _ within).1 here).0
          ((done.0 c.loop-i.i c.index-links-i.result _ within).1 here).1 in (
            halves_step (IsQueriedNext g.L.Link.told c.args.task.now replies) (IsReceivedNext g.L.Link.told c.args.task.now replies)
                c.loop-i.i c.loop-i.states c.loop-i.links c.receive_one.new.state c.receive_one.new.link inv.same_len within done.0 next.0,
            each_more c.args.coordinator.now.map.measures c.loop-i.coordinator.map.measures c.receive_one.new.coordinator.map.measures
                c.loop-i.i (λ k. measures_of (take 1 (replies k))) done.1 next.1,
          );
      in_step = λ h s. AllInStep-set under c.args.task.now c.receive_one.new.coordinator.map c.loop-i.states c.loop-i.links c.loop-i.i
          c.receive_one.new.state c.receive_one.new.link inv.same_len within
          (c.in_ok-receive_one.ensures.in_step (inv.honest_still h c.loop-i.i _ within) (inv.in_step h s c.loop-i.i _ _ within))
          (all_in_step_above under c.args.task.now c.loop-i.coordinator.map c.receive_one.new.coordinator.map c.loop-i.states
          c.loop-i.links moves.above (inv.in_step h s));
      least = λ h s m closed le. c.receive_one.ensures.least (inv.honest_still h c.loop-i.i _ within)
          (inv.in_step h s c.loop-i.i _ _ within) m closed (inv.least h s m closed le);
    }

pub returns-in_err-receive_one-clause-moves : goal.returns-in_err-receive_one-clause-moves
returns-in_err-receive_one-clause-moves g c = moves_more _ _ _ c.loop-i.invariant.moves c.receive_one.ensures.moves

pub returns-clause-told : goal.returns-clause-told
returns-clause-told g c = λ replies tell queried.
    let same = c.loop-i.invariant.same_count in
    let past = c.loop-i-test.false in
    let done = c.loop-i.invariant.told_done replies tell queried in
    let all : c.loop-i.i ≡ length c.args.links.now = (let end = c.loop-i.auto.i-end in omega arith) in (
      (λ k d e lt. (done.0 k d e lt).0 (omega arith)),
      subst (λ (n : ℕ). JoinsEach c.args.coordinator.now.map.measures n (λ k. measures_of (take 1 (replies k)))
          c.loop-i.coordinator.map.measures) all done.1,
    )

pub returns-in_err-receive_one-clause-honest : goal.returns-in_err-receive_one-clause-honest
returns-in_err-receive_one-clause-honest g c = λ h.
    let inv = c.loop-i.invariant in
    let within : c.loop-i.i < length c.loop-i.links = search rules in
    All-set g.L.Link.is_honest c.loop-i.links c.loop-i.i c.receive_one.new.link
    (c.receive_one.ensures.honest (inv.honest_still h c.loop-i.i _ within)) (inv.honest_still h)
