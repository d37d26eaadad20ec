-- The tables of a ladder.
use Rattle.std.specs.Prelude.{◌≡◌, ℕ, suc, ◌+◌, ◌^◌, ◌<◌, ◌≤◌, List, length, Any, slice_index}
use Rattle.pg_measure.specs.Measures.{BoundList, AreBounds}
use Rattle.pg_map_ranks.specs.Ladders.{step_at, component}

-- the steps from `begin` on and before step k are at lesser priorities than step k, and the step before them isn't
pub record IsBegin (steps : List ℕ) (begin k : ℕ) : Type 0 where
  pub among : begin ≤ k
  pub less : (j : ℕ) → begin ≤ j → j < k → step_at steps j < step_at steps k
  pub first : (j : ℕ) → begin ≡ suc j → step_at steps k ≤ step_at steps j

-- the steps from `origin` on and before step k are at priorities no greater than that of step k, and the step before them is at a
-- greater one
pub record IsOrigin (steps : List ℕ) (origin k : ℕ) : Type 0 where
  pub among : origin ≤ k
  pub no_more : (j : ℕ) → origin ≤ j → j < k → step_at steps j ≤ step_at steps k
  pub more : (j : ℕ) → origin ≡ suc j → step_at steps k < step_at steps j

-- the steps after step k and before `end` are at priorities no greater than that of step k
pub record IsEnd (steps : List ℕ) (end k : ℕ) : Type 0 where
  pub after : k < end
  pub within : end ≤ length steps
  pub no_more : (j : ℕ) → k < j → j < end → step_at steps j ≤ step_at steps k

-- n is within the bound of the priority p
abbrev pub IsBounded : BoundList → ℕ → ℕ → Type 0
IsBounded bounds p n = Any (λ b. (b.0 ≡ p) × (n ≤ b.1)) bounds

-- after step k, the component that it makes greater is n
abbrev pub IsCount : List ℕ → ℕ → ℕ → Type 0
IsCount steps n k = n ≡ component steps (step_at steps k) (suc k)

pub record AreBegins (steps begins : List ℕ) : Type 0 where
  pub each : length begins ≡ length steps
  pub are : (k : ℕ) → k < length steps → IsBegin steps (slice_index begins k) k

pub record AreOrigins (steps origins : List ℕ) : Type 0 where
  pub each : length origins ≡ length steps
  pub are : (k : ℕ) → k < length steps → IsOrigin steps (slice_index origins k) k

pub record AreEnds (steps ends : List ℕ) : Type 0 where
  pub each : length ends ≡ length steps
  pub are : (k : ℕ) → k < length steps → IsEnd steps (slice_index ends k) k

-- there are few enough steps for ranks to be numbers of the code, and it is known where lesser steps begin and end
pub record AreBlocks (steps begins ends : List ℕ) : Type 0 where
  pub few : length steps + 2 < 2 ^ 32
  pub are_begins : AreBegins steps begins
  pub are_ends : AreEnds steps ends

pub record AreCounts (bounds : BoundList) (steps counts : List ℕ) : Type 0 where
  pub each : length counts ≡ length steps
  pub are : (k : ℕ) → k < length steps → IsCount steps (slice_index counts k) k
  pub bounded : (k : ℕ) → k < length steps → IsBounded bounds (step_at steps k) (slice_index counts k)

pub record AreRungs (bounds : BoundList) (steps begins origins ends counts : List ℕ) : Type 0 where
  pub are_bounds : AreBounds bounds
  pub are_blocks : AreBlocks steps begins ends
  pub are_origins : AreOrigins steps origins
  pub are_counts : AreCounts bounds steps counts
