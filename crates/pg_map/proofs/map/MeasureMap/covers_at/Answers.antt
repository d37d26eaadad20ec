use Rattle.pg_map.proofs.Common.{refl, [], Even, line_of, only}
use Rattle.pg_map.proofs.Lifts.{covers_either}
use Rattle.pg_map.proofs.Orderings.{both_ways}
use Rattle.pg_map.proofs.map.MeasureMap.covers_at.Goals as goal

pub returns : goal.returns
returns c =
    both_ways c.covers.result _ (covers_either c.covers.result c.args.self.now.bounds _
    (only (line_of c.args.priority Even
    [])) c.args.self.now.measures c.args.v c.args.w _ _ refl c.bounds.ensures c.width_from-front.ensures.value
    (rw (c.v.view_is, c.w.view_is) at c.covers.ensures))
