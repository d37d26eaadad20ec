use Rattle.pg_map.proofs.Common.{Some, refl, arith, nat_tests}
use Rattle.pg_map.proofs.Orderings.{seen_length}
use Rattle.pg_map.proofs.map.MeasureMap.write_list.Goals as goal

pub set-requires-clause-width : goal.set-requires-clause-width
set-requires-clause-width c = grind (arith, nat_tests, seen_length c.args.self.now.bounds (Some c.args.list.now) c.args.list.now c.requires.fits refl)
