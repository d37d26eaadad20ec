-- Solving over links.
use Rattle.std.specs.Prelude.{◌≢◌, ℕ, ◌+◌, ◌*◌, ◌⊎◌, length}
use Rattle.pg_measure.specs.Measures.{BoundList}
use Rattle.pg_map.specs.Weights.{list_count}
use Rattle.pg_coord_partition.specs.Cuts.{CutValue}

-- the cut doesn't have this number of vertices, or has another number of workers than there are links
abbrev pub IsMismatch : ℕ → ℕ → CutValue → Type 0
IsMismatch vertices links cut = (length cut.numbers ≢ vertices) ⊎ (cut.workers ≢ links)

-- the greatest number of rounds: one in which nothing rises, and one for each rise of a vertex. A vertex can rise once for
-- each list of the bounds, the last time to top
abbrev pub most_rounds : ℕ → BoundList → ℕ
most_rounds vertices bounds = 1 + vertices * list_count bounds
