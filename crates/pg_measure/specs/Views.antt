-- The measure that a view shows.
use Rattle.std.specs.Prelude.{Some, None}
use Rattle.pg_measure.specs.Measures.{MeasureValue}
use Rattle.pg_measure.specs.declared.view.View.{View}
use Rattle.pg_measure.specs.declared.view.View.TheVariants as view

-- the borrowed measure
abbrev pub measure_in : View → MeasureValue
measure_in view.Top = None
measure_in (view.List xs) = Some xs.now
