-- Numbers that are listed, with a mark for each of them.
use Rattle.std.specs.Prelude.{◌≡◌, ℕ, ◌≤◌, Bool, false, List, length, cond, nat_eq, slice_index_or, count_by}

-- the number of times that the number is in the list
abbrev pub times : ℕ → List ℕ → ℕ
times v numbers = count_by (λ u. nat_eq u v) numbers

-- the numbers are distinct and are those that are marked, and there is room for all
pub record IsVertexSet (numbers : List ℕ) (marked : List Bool) (room : ℕ) : Type 0 where
  pub size : length numbers ≡ count_by (λ b. b) marked
  pub each : (v : ℕ) → times v numbers ≡ cond (slice_index_or marked v false) 1 0
  pub fits : length marked ≤ room
