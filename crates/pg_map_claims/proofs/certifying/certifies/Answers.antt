use Rattle.std.proofs.Common.{length, refl, subst}
use Rattle.pg_map.specs.Maps.{IsMap, IsNeverAbove, IsLeastProgressMeasure}
use Rattle.pg_map_claims.proofs.Backed.{on_true}
use Rattle.pg_map_claims.proofs.certifying.certifies.Goals as goal

pub returns-then-is_closed : goal.returns-then-is_closed
returns-then-is_closed g c =
    let lines = g.G.Lines.line c.args.lines.now in
    let map = c.args.map.now in
    on_true c.is_never_above.result (IsNeverAbove map.bounds lines map.measures)
    (IsLeastProgressMeasure map.bounds (length map.measures) lines map.measures)
    (λ least. record {
      map = subst (λ n. IsMap map.bounds n map.measures) c.len-count.ensures.value c.len-count.ensures.map;
      closed = c.if-is_closed.ensures.0 refl;
      least = least;
    }) c.is_never_above.ensures
