-- What is proved of ladders, over the definitions alone.
use Rattle.std.specs.Prelude.{◌≡◌, ◌↔◌, ℕ, ◌+◌, ◌≤◌, List, length}
use Rattle.pg_measure.specs.Measures.{BoundList, AreBounds, zeros, AtMost}
use Rattle.pg_map_ranks.specs.Ladders.{IsLadder, rank_measure}

-- rank 0 is zeros, and ranks compare as their measures do
pub record RanksCompare : Type 0 where
  pub from_zeros : (bounds : BoundList) (steps : List ℕ) → rank_measure bounds steps 0 ≡ zeros bounds
  pub compare : (bounds : BoundList) (steps : List ℕ) (i j : ℕ) → AreBounds bounds → IsLadder bounds steps → i ≤ length steps + 1
      → (i ≤ j) ↔ AtMost (rank_measure bounds steps i) (rank_measure bounds steps j)
