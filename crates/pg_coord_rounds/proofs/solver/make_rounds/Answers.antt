use Rattle.pg_coord_rounds.proofs.Common.{◌≡◌, ◌+◌, ◌<◌, ◌≤◌, ◌^◌, ℕ, Bool, true, false, cond, length, drop, rules, refl, ap, sym, subst, ◌∙◌}
use Rattle.pg_coord_rounds.proofs.Common.{arith, MapValue, map_weight, received}
use Rattle.pg_coord_rounds.proofs.Ends.{found_none, found_more}
use Rattle.pg_coord_rounds.proofs.Taken.{none_taken, round_taken, least_over}
use Rattle.pg_coord_rounds.proofs.solver.make_rounds.Goals as goal

falls : (rose : Bool) (w w' : ℕ) → (rose ≡ true → w' < w) → (rose ≡ false → w' ≡ w) → w' + cond rose 1 0 < w + 1
falls true w w' less same = let l = less refl in omega arith
falls false w w' less same = let l = same refl in omega arith

pub rounds-init : goal.rounds-init
rounds-init g c = record {
  same_len = c.requires.states;
  same_count = refl;
  found = found_none _ _ c.args.coordinator.now.map c.requires.map;
  honest_still = λ h. h;
  in_step = λ h s. s;
  taken = λ replies tell. none_taken g.L.Link.told c.args.task.now replies c.args.states.now c.args.links.now c.args.coordinator.now.map.measures tell;
  rising = λ rose. omega arith;
  quiet = λ still. absurd (let rose = c.requires.rose in cc);
}

pub rounds-preserved : goal.rounds-preserved
rounds-preserved g c =
    let inv = c.rounds.invariant in
    let e = c.in_ok-make_round.ensures in
    let few : c.saturating_add-rounds.result ≤ c.rounds.rounds + 1 = search rules in
    let some : 1 ≤ c.saturating_add-rounds.result = search rules in
    let before = inv.rising c.rounds-test.true in
    record {
      same_len = c.make_round.auto.states ∙ inv.same_len ∙ sym c.make_round.auto.links;
      same_count = c.make_round.auto.links ∙ inv.same_count;
      found = found_more _ _ _ c.args.coordinator.now.map c.rounds.coordinator.map c.make_round.new.coordinator.map c.requires.map.size
          (λ h. (inv.honest_still h.0, inv.in_step h.0 h.1)) inv.found e.found;
      honest_still = λ h. c.make_round.ensures.honest (inv.honest_still h);
      in_step = λ h s. e.in_step (inv.honest_still h) (inv.in_step h s);
      taken = λ replies tell.
          let h = inv.taken replies tell in
          let over = e.told (λ k. drop h.taken (replies k)) h.tell in
          round_taken g.L.Link.told c.args.task.now replies c.rounds.rounds c.saturating_add-rounds.result c.rounds.states c.make_round.new.states c.rounds.links
          c.make_round.new.links c.args.coordinator.now.map.measures c.rounds.coordinator.map.measures c.make_round.new.coordinator.map.measures h
          c.saturating_add-rounds.ensures
          c.make_round.auto.links e.found.above over.0 over.1;
      rising = λ rose. let w = e.falls rose in omega arith;
      quiet = λ still.
          let same = ap (λ (m : MapValue). map_weight m.bounds m.measures) (e.stays still) in
          ((some, omega (arith, same)), e.closed still);
    }

pub rounds-smaller : goal.rounds-smaller
rounds-smaller g c =
    let e = c.in_ok-make_round.ensures in
    rw c.rounds-test.true (falls _ _ _ e.falls (λ still. ap (λ (m : MapValue). map_weight m.bounds m.measures) (e.stays still)))

pub make_round-requires-clause-states : goal.make_round-requires-clause-states
make_round-requires-clause-states g c = c.rounds.invariant.same_len

pub make_round-requires-clause-few : goal.make_round-requires-clause-few
make_round-requires-clause-few g c = subst (λ (n : ℕ). n < 2 ^ 32) (sym c.rounds.invariant.same_count) c.requires.few

pub make_round-requires-clause-bounds : goal.make_round-requires-clause-bounds
make_round-requires-clause-bounds g c = c.rounds.invariant.found.bounds ∙ c.requires.bounds

pub make_round-requires-clause-size : goal.make_round-requires-clause-size
make_round-requires-clause-size g c = c.rounds.invariant.found.map.size

pub returns-clause-ends : goal.returns-clause-ends
returns-clause-ends g c =
    let inv = c.rounds.invariant in
    let quiet = inv.quiet c.rounds-test.false in
    record {
      found = inv.found;
      closes = record {
        closed = quiet.1;
        rounds = quiet.0;
        told = λ replies tell first.
            least_over g.L.Link.told c.args.task.now replies c.rounds.rounds c.rounds.states c.rounds.links (length c.args.links.now) c.args.coordinator.now.map
            c.rounds.coordinator.map (inv.taken (λ k. received 3 (replies k)) tell) inv.same_count c.requires.bounds c.requires.map.size
            inv.found.bounds inv.found.map.size quiet.1 first;
      };
      limited = tt;
    }

pub returns-then-are_given_up-clause-ends : goal.returns-then-are_given_up-clause-ends
returns-then-are_given_up-clause-ends g c = record { found = c.rounds.invariant.found; closes = tt; limited = search rules }

pub returns-in_err-make_round-clause-honest : goal.returns-in_err-make_round-clause-honest
returns-in_err-make_round-clause-honest g c = λ h. c.make_round.ensures.honest (c.rounds.invariant.honest_still h)
