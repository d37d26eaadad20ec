-- Ladders: the priorities of steps from each measure to the next one, the rows that they make, and ranks.
use Rattle.std.specs.Prelude.{◌≡◌, ℕ, zero, suc, ◌+◌, ◌≤◌, ◌==◌, nat_lt, nat_le, List, length, map, Some, None}
use Rattle.std.specs.Prelude.{if◌then◌else◌, slice_index_or, All, Any}
use Rattle.pg_measure.specs.Measures.{BoundList, MeasureValue, ListFits, Fits, AtMost, Covers}

-- a ladder: its bounds, and the priorities of its steps
pub record LadderValue : Type 0 where
  pub bounds : BoundList
  pub steps : List ℕ

-- the step from row k to the next one is at this priority
abbrev pub step_at : List ℕ → ℕ → ℕ
step_at steps k = slice_index_or steps k 0

-- a step at d makes the component of d one greater and those of lesser priorities 0, and leaves the others
abbrev pub after_step : ℕ → ℕ → ℕ → ℕ
after_step d p n = if nat_lt p d then 0 else (if p == d then n + 1 else n)

-- the component of the priority p in row k: row 0 is zeros
abbrev pub component : List ℕ → ℕ → ℕ → ℕ
component steps p zero = 0
component steps p (suc k) = after_step (step_at steps k) p (component steps p k)

abbrev pub row : BoundList → List ℕ → ℕ → List ℕ
row bounds steps k = map (λ b. component steps b.0 k) bounds

-- the rows are within the bounds, and each step is at one of their priorities
pub record IsLadder (bounds : BoundList) (steps : List ℕ) : Type 0 where
  pub known : All (λ d. Any (λ b. b.0 ≡ d) bounds) steps
  pub fits : (k : ℕ) → k ≤ length steps → ListFits bounds (row bounds steps k)

-- the measure of a rank: a row, and top past the last one
abbrev pub rank_measure : BoundList → List ℕ → ℕ → MeasureValue
rank_measure bounds steps r = if nat_le r (length steps) then Some (row bounds steps r) else None

-- the map of these ranks
abbrev pub rank_map : BoundList → List ℕ → List ℕ → List MeasureValue
rank_map bounds steps ranks = map (rank_measure bounds steps) ranks

-- m is justified by n at p: every measure of the bounds that covers n at p is at least m
abbrev pub IsJustified : BoundList → ℕ → MeasureValue → MeasureValue → Type 0
IsJustified bounds p m n = (o : MeasureValue) → Fits bounds o → Covers bounds p o n → AtMost m o

-- at p the measures of ranks from low on justify that of rank r
abbrev pub IsJustifiedFrom : BoundList → List ℕ → ℕ → ℕ → ℕ → Type 0
IsJustifiedFrom bounds steps p r low =
    (k : ℕ) → low ≤ k → IsJustified bounds p (rank_measure bounds steps r) (rank_measure bounds steps k)
