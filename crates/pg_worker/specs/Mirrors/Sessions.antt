-- Facts about the sessions of set-ups that are well.
use Rattle.std.specs.Prelude.{◌<◌, ◌≤◌, ◌^◌, ℕ, length, All}
use Rattle.pg_worker.specs.Turns.{SessionValue}

-- there are few vertices and bounds, and four bytes hold each bound
pub record IsSmall (h : SessionValue) : Type 0 where
  pub vertices : length h.worker.lines ≤ 1048576
  pub bounds : length h.worker.bounds ≤ 32768
  pub words : All (λ (b : ℕ × ℕ). b.1 < 2 ^ 32) h.worker.bounds
