use Rattle.pg_coord_rounds.proofs.Common.{◌≡◌, rules, ◌<◌, ◌≤◌, length, length-set, arith, All-set, MapValue, received, IsInStep}
use Rattle.pg_coord_rounds.proofs.LinkStates.{halves_step}
use Rattle.pg_coord_rounds.proofs.Replying.{TellsFirst, TellsNext}
use Rattle.pg_coord_rounds.proofs.round.set_up_all.Goals as goal

pub loop-i-init : goal.loop-i-init
loop-i-init g c = record {
  same_len = search rules;
  same_count = search rules;
  honest_still = λ h. h;
  unset = λ k d e lt. ((λ l. absurd (omega arith)), λ le. c.requires.unset k e (let same = c.requires.states in omega arith));
  told_done = λ replies tell k d e lt. ((λ l. absurd (omega arith)), λ le. tell k d lt);
  in_step = λ h k d e lt. ((λ l. absurd (omega arith)), λ le. tt);
}

pub loop-i-preserved : goal.loop-i-preserved
loop-i-preserved g c =
    let honest = g.L.Link.is_honest in
    let under = g.L.Link.is_under in
    let inv = c.loop-i.invariant in
    let within : c.loop-i.i < length c.loop-i.links = search rules in
    record {
      same_len = search (rules, length-set);
      same_count = search (rules, length-set);
      honest_still = λ h. All-set honest c.loop-i.links c.loop-i.i c.set_up_one.new.link
          (c.set_up_one.ensures.honest (inv.honest_still h c.loop-i.i _ within)) (inv.honest_still h);
      unset = halves_step (λ k state link. state.restarts ≡ 0) (λ k state link. Unit {0}) c.loop-i.i c.loop-i.states c.loop-i.links c.set_up_one.new.state
          c.set_up_one.new.link inv.same_len within inv.unset tt;
      told_done = λ replies tell.
          let here : c.loop-i.i ≤ c.loop-i.i = omega arith in
          let first = (inv.told_done replies tell c.loop-i.i c.index-links-i.result c.set_up_one.new.state within).1 here in
          halves_step (TellsFirst g.L.Link.told c.args.task.now replies)
          (TellsNext g.L.Link.told c.args.task.now (λ k. received 3 (replies k)))
          c.loop-i.i c.loop-i.states c.loop-i.links c.set_up_one.new.state c.set_up_one.new.link inv.same_len within
          (inv.told_done replies tell)
          (c.in_ok-set_up_one.ensures.told (replies c.loop-i.i) first.0 first.1);
      in_step = λ h. halves_step (λ k state link. Unit {0}) (λ k state link. (map : MapValue) → IsInStep under c.args.task.now map state link) c.loop-i.i c.loop-i.states c.loop-i.links c.set_up_one.new.state c.set_up_one.new.link inv.same_len within (inv.in_step h) (c.in_ok-set_up_one.ensures.in_step (inv.honest_still h c.loop-i.i _ within));
    }

pub set_up_one-requires : goal.set_up_one-requires
set_up_one-requires g c =
    let within : c.loop-i.i < length c.loop-i.links = search rules in
    (c.loop-i.invariant.unset c.loop-i.i c.index-links-i.result _ within).1 (omega arith)

pub returns-clause-in_step : goal.returns-clause-in_step
returns-clause-in_step g c = λ h map k d e lt. (c.loop-i.invariant.in_step h k d e lt).0
    (let past = c.loop-i-test.false in let same = c.loop-i.invariant.same_count in omega arith) map

pub returns-clause-told : goal.returns-clause-told
returns-clause-told g c = λ replies tell k d e lt.
    let same = c.loop-i.invariant.same_count in
    let past = c.loop-i-test.false in
    (c.loop-i.invariant.told_done replies tell k d e lt).0 (omega arith)

pub returns-in_err-set_up_one-clause-honest : goal.returns-in_err-set_up_one-clause-honest
returns-in_err-set_up_one-clause-honest g c = λ h.
    let inv = c.loop-i.invariant in
    let within : c.loop-i.i < length c.loop-i.links = search rules in
    All-set g.L.Link.is_honest c.loop-i.links c.loop-i.i c.set_up_one.new.link
    (c.set_up_one.ensures.honest (inv.honest_still h c.loop-i.i _ within)) (inv.honest_still h)
