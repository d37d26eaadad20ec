-- The laws of measures and maps that the proofs use.
use Rattle.pg_measure.specs.Laws.{OrderIsTotal}
use Rattle.pg_map.specs.Laws.{GameLines, ZeroMapIsLeast, LiftStaysUnder}

pub record MapLaws : Type 0 where
  pub order : OrderIsTotal
  pub zero : ZeroMapIsLeast
  pub lines : GameLines
  pub under : LiftStaysUnder
