use Rattle.pg_map.proofs.Common.{◌∙◌, ap, arith, length, nat_tests}
use Rattle.pg_map.proofs.Orderings.{at_most_either}
use Rattle.pg_map.proofs.map.MeasureMap.is_at_most_at.Goals as goal

pub returns : goal.returns
returns c = grind (
  arith,
  nat_tests,
  at_most_either c.covers.result c.args.self.now.bounds _ _ _ _ _
      (ap length (c.pairs.ensures.value ∙ c.bounds.ensures)) c.row-2.ensures.value c.row.ensures.value c.row-2.ensures.fits
      (rw (← c.requires.bounds) at c.row.ensures.fits) c.covers.ensures,
)
