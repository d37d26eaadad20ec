-- The parts of replies.
use Rattle.std.specs.Prelude.{ℕ, List, map}
use Rattle.pg_measure.specs.Measures.{MeasureValue}
use Rattle.pg_map.specs.Maps.{measure_at}
use Rattle.pg_wire.specs.Measured.{Measured}

abbrev pub measures_of : List MeasureValue → List ℕ → List Measured
measures_of f vs = map (λ v. (v, measure_at f v)) vs
