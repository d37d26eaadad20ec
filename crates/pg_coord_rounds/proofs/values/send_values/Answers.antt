use Rattle.pg_coord_rounds.proofs.Common.{◌≡◌, ◌<◌, length, rules, All-drop, frame_of}
use Rattle.pg_coord_rounds.proofs.Measuring.{under_values, map_at_least}
use Rattle.pg_coord_rounds.proofs.Taking.{sent_values}
use Rattle.pg_coord_rounds.proofs.values.send_values.Goals as goal
use Rattle.pg_coord_rounds.proofs.values.send_values.Goals.{then-some+in_ok-send, else-some}

pub values-preserved : goal.values-preserved
values-preserved g c =
    let map = c.args.map.now in
    let kind = c.args.to.kind in
    let inv = c.values.invariant in
    let frame = c.in_ok-count.ensures.frame in
    elim c.if-some.branch [
      | then-some+in_ok-send w ↦
          rw w.link-is record {
            within = rw c.split_at.ensures.back (All-drop (λ v. v < length map.measures) c.in_ok-count.count c.values.rest.now inv.within);
            honest_still = λ h. w.send.ensures.honest (inv.honest_still h);
            told_still = λ left is.
                let bytes : w.as_slice.result.now ≡ c.write_frame.new.out.items = search rules in
                let sent = w.in_ok-send.ensures.told (frame_of kind (length map.bounds) frame.measures) (rw bytes frame.spelled) in
                (sent_values kind (length map.bounds) frame.measures (g.L.Link.told c.values.link) (g.L.Link.told w.send.new.self) _ left sent
                (inv.told_still left is)).1;
            under_still = λ h m le u. w.in_ok-send.ensures.under (inv.honest_still h) (frame_of kind (length map.bounds) frame.measures)
                (let bytes : w.as_slice.result.now ≡ c.write_frame.new.out.items = search rules in rw bytes frame.spelled) m
                (under_values kind (length map.bounds) frame.measures m _
                (rw frame.in_frame (map_at_least map.measures m.measures frame.measures le frame.of_map)) (inv.under_still h m le u));
          }
      | else-some w ↦
          rw w.link-is record {
            within = rw c.split_at.ensures.back (All-drop (λ v. v < length map.measures) c.in_ok-count.count c.values.rest.now inv.within);
            honest_still = inv.honest_still;
            told_still = inv.told_still;
            under_still = inv.under_still;
          }
    ]
