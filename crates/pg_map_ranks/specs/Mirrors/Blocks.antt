-- What the measure of a rank covers, and what justifies it: the ranks of two blocks of a ladder.
use Rattle.std.specs.Prelude.{◌≡◌, ◌↔◌, ℕ, suc, ◌+◌, ◌%◌, ◌<◌, ◌≤◌, ◌⊎◌, List, length, slice_index, slice_index_or, Option, Some, None}
use Rattle.pg_measure.specs.Measures.{BoundList, Covers}
use Rattle.pg_map_ranks.specs.Ladders.{step_at, rank_measure}

-- the rank of a vertex
abbrev pub rank_at : List ℕ → ℕ → ℕ
rank_at ranks v = slice_index ranks v

-- the rank k is below the limit, if there is one
abbrev pub IsUnder : Option ℕ → ℕ → Type 0
IsUnder None k = Unit {0}
IsUnder (Some high) k = k < high

-- w is the first of the vertices whose rank is below the limit
pub record IsFirstUnder (ranks vertices : List ℕ) (high : Option ℕ) (w : ℕ) : Type 0 where
  pub index : ℕ
  pub among : index < length vertices
  pub is : slice_index_or vertices index w ≡ w
  pub under : IsUnder high (rank_at ranks w)
  pub before : (j d : ℕ) → j < index → ¬ IsUnder high (rank_at ranks (slice_index_or vertices j d))

-- at p the measure of rank r covers those of the ranks below the limit, and no others
abbrev pub CoversUnder : BoundList → List ℕ → ℕ → ℕ → Option ℕ → Type 0
CoversUnder bounds steps p r high =
    (k : ℕ) → IsUnder high k ↔ Covers bounds p (rank_measure bounds steps r) (rank_measure bounds steps k)

-- the rows from low on and before high agree in the components of priorities at least p: no step between them is at such a priority
abbrev pub IsBlock : List ℕ → ℕ → ℕ → ℕ → Type 0
IsBlock steps p low high = (k : ℕ) → low ≤ k → k + 1 < high → step_at steps k < p

-- row r has zeros below p
pub record IsClearRow (steps : List ℕ) (p r : ℕ) : Type 0 where
  pub list : r ≤ length steps
  pub clear : (k : ℕ) → r ≡ suc k → p ≤ step_at steps k

-- row r is made by a step at the odd priority p from the row before it
pub record IsOddRow (steps : List ℕ) (p r : ℕ) : Type 0 where
  pub odd : p % 2 ≡ 1
  pub list : r ≤ length steps
  pub before : ℕ
  pub follows : r ≡ suc before
  pub step : step_at steps before ≡ p

-- the steps from `from` on and before `end` are at priorities of at most `most`, and the step at `end` isn't
pub record IsPast (steps : List ℕ) (most from end : ℕ) : Type 0 where
  pub after : from ≤ end
  pub within : end ≤ length steps
  pub no_more : (k : ℕ) → from ≤ k → k < end → step_at steps k ≤ most
  pub more : end < length steps → most < step_at steps end

-- a block begins at r, and after it comes a step at a priority at least p, or the ladder's end
pub record IsBlockFrom (steps : List ℕ) (p r high : ℕ) : Type 0 where
  pub within : high ≤ length steps + 1
  pub after : r < high
  pub block : IsBlock steps p r high
  pub last : (k : ℕ) → high ≡ suc k → k < length steps → p ≤ step_at steps k

-- a block ends with r, and before it comes a step at a priority at least p, or the ladder's beginning
pub record IsBlockTo (steps : List ℕ) (p r low : ℕ) : Type 0 where
  pub before : low ≤ r
  pub block : IsBlock steps p low (r + 1)
  pub first : (k : ℕ) → low ≡ suc k → p ≤ step_at steps k

-- the rank from which on ranks justify r: top; or r, if its row has zeros below p; or the beginning of a block that ends at r, if r
-- is made by a step at the odd priority p
abbrev pub IsLow : List ℕ → ℕ → ℕ → ℕ → Type 0
IsLow steps p r low = (length steps < low) ⊎ (((low ≡ r) × IsClearRow steps p r) ⊎ (IsOddRow steps p r × IsBlock steps p low r))

-- the rank below which r covers ranks: at an even priority the end of the block that begins at r, at an odd one the beginning of
-- the block that ends with r
abbrev pub IsHigh : List ℕ → ℕ → ℕ → ℕ → Type 0
IsHigh steps p r high = ((p % 2 ≡ 0) × IsBlockFrom steps p r high) ⊎ ((p % 2 ≡ 1) × IsBlockTo steps p r high)
