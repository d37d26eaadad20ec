use Rattle.pg_coord_rounds.proofs.Common.{rules, ◌<◌, length, length-set, All-set}
use Rattle.pg_coord_rounds.proofs.sending.halt.Goals as goal

pub loop-i-preserved : goal.loop-i-preserved
loop-i-preserved g c =
    let honest = g.L.Link.is_honest in
    let inv = c.loop-i.invariant in
    let within : c.loop-i.i < length c.loop-i.links = search rules in
    record {
      same_count = search (rules, length-set);
      honest_still = λ h. All-set honest c.loop-i.links c.loop-i.i c.send-sent.new.self
          (c.send-sent.ensures.honest (inv.honest_still h c.loop-i.i _ within)) (inv.honest_still h);
    }
