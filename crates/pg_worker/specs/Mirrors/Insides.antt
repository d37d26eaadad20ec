-- The parts of a worker fit together.
use Rattle.std.specs.Prelude.{◌≡◌, ℕ, ◌<◌, ◌≤◌, List, Option, length, IsSome}
use Rattle.pg_map.specs.Lines.{Line}
use Rattle.pg_map_lift.specs.Mirrors.Lifters.{LifterValue}
use Rattle.pg_worker.specs.Workers.{part_line}

-- `next` is one more than the greatest vertex of the part, or 0
pub record IsNext (lines : List (Option Line)) (next : ℕ) : Type 0 where
  pub above : (v : ℕ) → IsSome (part_line lines v) → v < next
  pub least : (n : ℕ) → ((v : ℕ) → IsSome (part_line lines v) → v < n) → next ≤ n

-- facts about a worker beside those about its lifter; `listings` is the number of vertices whose lifts it can list
pub record IsWhole (lifter : LifterValue (List (Option Line))) (next listings : ℕ) : Type 0 where
  pub size : length lifter.lines ≡ length lifter.map.measures
  pub above : IsNext lifter.lines next
  pub listed : listings ≡ length lifter.map.measures
