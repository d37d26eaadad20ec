-- The values that a link may return.
use Rattle.std.specs.Prelude.{◌≡◌, ℕ, ◌<◌, List, length, All}
use Rattle.pg_measure.specs.Measures.{BoundList, Fits}
use Rattle.pg_wire.specs.declared.kind.ValueKind.{ValueKind}
use Rattle.pg_wire.specs.Measured.{Measured}
use Rattle.pg_coord_partition.specs.Cuts.{CutValue, worker_of}

-- a measure that fits the bounds, at a vertex of the worker's part
pub record IsOfPart (bounds : BoundList) (cut : CutValue) (worker : ℕ) (m : Measured) : Type 0 where
  pub vertex : m.0 < length cut.numbers
  pub part : worker_of cut m.0 ≡ worker
  pub fits : Fits bounds m.1

-- a frame of measures that is no failure of its link: it is of the kind that was agreed on, its width is the number of
-- bounds, and its measures belong to the worker's part
pub record AreOfPart (agreed : ValueKind) (bounds : BoundList) (cut : CutValue) (worker : ℕ) (kind : ValueKind) (width : ℕ)
    (ms : List Measured) : Type 0 where
  pub kind_is : kind ≡ agreed
  pub width_is : width ≡ length bounds
  pub measures : All (IsOfPart bounds cut worker) ms
