use Rattle.pg_coord_rounds.proofs.Common.{rules, ◌<◌, ◌≤◌, length, length-set, arith, All-set}
use Rattle.pg_coord_rounds.proofs.LinkStates.{AllInStep-set, halves_step}
use Rattle.pg_coord_rounds.proofs.Replying.{TellsNext, IsQueriedNext}
use Rattle.pg_coord_rounds.proofs.round.query_all.Goals as goal

pub loop-i-preserved : goal.loop-i-preserved
loop-i-preserved g c =
    let honest = g.L.Link.is_honest in
    let under = g.L.Link.is_under in
    let inv = c.loop-i.invariant in
    let within : c.loop-i.i < length c.loop-i.links = search rules in
    record {
      same_len = search (rules, length-set);
      same_count = search (rules, length-set);
      honest_still = λ h. All-set honest c.loop-i.links c.loop-i.i c.query_one.new.link
          (c.query_one.ensures.honest (inv.honest_still h c.loop-i.i _ within)) (inv.honest_still h);
      told_done = λ replies tell.
          let here : c.loop-i.i ≤ c.loop-i.i = omega arith in
          halves_step (TellsNext g.L.Link.told c.args.task.now replies) (IsQueriedNext g.L.Link.told c.args.task.now replies) c.loop-i.i
          c.loop-i.states c.loop-i.links c.query_one.new.state c.query_one.new.link inv.same_len within (inv.told_done replies tell)
          (c.in_ok-query_one.ensures.told (replies c.loop-i.i) ((inv.told_done replies tell c.loop-i.i _ _ within).1 here));
      in_step = λ h s. AllInStep-set under c.args.task.now c.args.coordinator.now.map c.loop-i.states c.loop-i.links c.loop-i.i
          c.query_one.new.state c.query_one.new.link inv.same_len within
          (c.in_ok-query_one.ensures.in_step (inv.honest_still h c.loop-i.i _ within) (inv.in_step h s c.loop-i.i _ _ within))
          (inv.in_step h s);
    }

pub loop-i-init : goal.loop-i-init
loop-i-init g c = record {
  same_len = search rules;
  same_count = search rules;
  honest_still = λ h. h;
  told_done = λ replies tell k d e lt. ((λ l. absurd (omega arith)), λ le. tell k d e lt);
  in_step = λ h s. s;
}

pub returns-clause-told : goal.returns-clause-told
returns-clause-told g c = λ replies tell.
    let done = c.loop-i.invariant.told_done replies tell in
    let same = c.loop-i.invariant.same_count in
    let past = c.loop-i-test.false in
    ((λ k d e lt. ((done k d e lt).0 (omega arith)).0), λ k d e lt. ((done k d e lt).0 (omega arith)).1)

pub returns-in_err-query_one-clause-honest : goal.returns-in_err-query_one-clause-honest
returns-in_err-query_one-clause-honest g c = λ h.
    let inv = c.loop-i.invariant in
    let within : c.loop-i.i < length c.loop-i.links = search rules in
    All-set g.L.Link.is_honest c.loop-i.links c.loop-i.i c.query_one.new.link
    (c.query_one.ensures.honest (inv.honest_still h c.loop-i.i _ within)) (inv.honest_still h)
