use Rattle.pg_coord_rounds.proofs.Common.{◌≡◌, ◌<◌, ◌^◌, ℕ, length, take, sym, ap, subst, ◌∙◌, arith, MapValue, MapAtMost, measures_of}
use Rattle.pg_coord_rounds.proofs.Joins.{at_least_after}
use Rattle.pg_coord_rounds.proofs.Moving.{moves_more}
use Rattle.pg_coord_rounds.proofs.Ends.{closed_map}
use Rattle.pg_coord_rounds.proofs.LinkStates.{all_in_step_above}
use Rattle.pg_coord_rounds.proofs.round.make_round.Goals as goal

pub receive_all-requires-clause-states : goal.receive_all-requires-clause-states
receive_all-requires-clause-states g c = c.query_all.auto.states ∙ c.requires.states ∙ sym c.query_all.auto.links

pub receive_all-requires-clause-few : goal.receive_all-requires-clause-few
receive_all-requires-clause-few g c = subst (λ (n : ℕ). n < 2 ^ 32) (sym c.query_all.auto.links) c.requires.few

pub receive_all-requires-clause-bounds : goal.receive_all-requires-clause-bounds
receive_all-requires-clause-bounds g c = ap (λ (m : MapValue). m.bounds) c.begin.ensures.map ∙ c.requires.bounds

pub receive_all-requires-clause-size : goal.receive_all-requires-clause-size
receive_all-requires-clause-size g c = ap (λ (m : MapValue). length m.measures) c.begin.ensures.map ∙ c.requires.size

pub end_round-requires-clause-bounds : goal.end_round-requires-clause-bounds
end_round-requires-clause-bounds g c = c.receive_all.ensures.moves.bounds ∙ ap (λ (m : MapValue). m.bounds) c.begin.ensures.map
    ∙ c.requires.bounds

pub end_round-requires-clause-size : goal.end_round-requires-clause-size
end_round-requires-clause-size g c = c.receive_all.ensures.moves.size ∙ ap (λ (m : MapValue). length m.measures) c.begin.ensures.map
    ∙ c.requires.size

pub returns : goal.returns
returns g c =
    let task = c.args.task.now in
    let before = c.args.coordinator.now in
    let begun = c.begin.new.self in
    let received = c.receive_all.new.coordinator in
    let after = c.end_round.new.coordinator in
    let same : begun.map ≡ before.map = c.begin.ensures.map in
    let last = c.end_round.ensures in
    let moves = moves_more begun received after c.receive_all.ensures.moves last.moves in
    record {
      honest = λ h. c.receive_all.ensures.honest (c.query_all.ensures.honest h);
      found = record {
        bounds = moves.bounds ∙ ap (λ (m : MapValue). m.bounds) same;
        map = record { size = moves.size ∙ ap (λ (m : MapValue). length m.measures) same ∙ c.requires.size; fits = c.len-vertices.ensures.map.fits };
        above = subst (λ (m : MapValue). MapAtMost m.measures after.map.measures) same moves.above;
        least = λ both h is closed le.
            let one = closed_map task before.map h c.requires.bounds c.requires.size is closed in
            last.least _ one
            (c.in_ok-receive_all.ensures.least (c.query_all.ensures.honest both.0)
            (rw same (c.in_ok-query_all.ensures.in_step both.0 both.1)) _ one (rw same le));
      };
      falls = λ rose. rw (moves.bounds, ← same) (moves.falls c.begin.ensures.rose rose);
      stays = λ still. (moves.stays still).1 ∙ same;
      closed = last.closed;
      in_step = λ h s.
          all_in_step_above g.L.Link.is_under task received.map after.map _ _ last.moves.above
          (c.in_ok-receive_all.ensures.in_step (c.query_all.ensures.honest h) (rw same (c.in_ok-query_all.ensures.in_step h s)));
      told = λ replies tell.
          let queried = c.in_ok-query_all.ensures.told replies tell in
          let received_all = c.in_ok-receive_all.ensures.told replies queried.0 queried.1 in
          let joined = received_all.1 in
          let count : length c.query_all.new.links ≡ length c.args.links.now = c.query_all.auto.links in (
            received_all.0,
            record {
              above = λ k lt. at_least_after received.map.measures after.map.measures (measures_of (take 1 (replies k))) last.moves.above
                  (joined.above k (omega arith));
              least = λ m closed le each. last.least m closed (joined.least m.measures (rw same le) (λ k lt. each k (omega arith)));
            },
          );
    }

pub returns-in_err-receive_all-clause-honest : goal.returns-in_err-receive_all-clause-honest
returns-in_err-receive_all-clause-honest g c = λ h. c.receive_all.ensures.honest (c.query_all.ensures.honest h)
