-- Frames of measures of a worker's part that were joined with the coordinator's map.
use Rattle.std.specs.Prelude.{◌≡◌, ℕ, Bool, List, MatchBool}
use Rattle.pg_wire.specs.declared.kind.ValueKind.{ValueKind}
use Rattle.pg_wire.specs.Measured.{Measured}
use Rattle.pg_coord_partition.specs.Cuts.{CutValue}
use Rattle.pg_coord_partition.specs.Frames.{Joins}
use Rattle.pg_coord_rounds.specs.PartMeasures.{AreOfPart}
use Rattle.pg_coord_rounds.specs.declared.coordinator_map.CoordinatorMap.{CoordinatorMap}

-- the measures of a frame were joined, or the frame isn't one of the agreed kind and of the worker's part, and none was
-- joined
abbrev pub JoinsFrame : ValueKind → CutValue → ℕ → CoordinatorMap → CoordinatorMap → ValueKind → ℕ → List Measured → Bool → Type 0
JoinsFrame agreed cut worker old new kind width ms all =
    MatchBool all (AreOfPart agreed old.map.bounds cut worker kind width ms × Joins old.map.measures ms new.map.measures)
    (¬ (AreOfPart agreed old.map.bounds cut worker kind width ms) × (new ≡ old))
