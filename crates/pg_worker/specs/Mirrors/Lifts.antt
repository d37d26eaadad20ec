-- Lifts whose vertices are listed.
use Rattle.std.specs.Prelude.{◌≡◌, ℕ, List, length, All, Any, Option}
use Rattle.std.specs.List.{Contains}
use Rattle.pg_measure.specs.Measures.{BoundList, MeasureValue}
use Rattle.pg_map.specs.Lines.{Line}
use Rattle.pg_map.specs.declared.update.Update.{Update}
use Rattle.pg_worker.specs.Workers.{AreLifts}

-- lifts that lead from f to g, of the vertices listed; P allows their number
pub record AreListedLifts (bounds : BoundList) (lines : ℕ → Option Line) (f g : List MeasureValue) (vertices : List ℕ) (P : ℕ → Type 0) : Type 0 where
  pub updates : List Update
  pub lifts : AreLifts bounds lines f updates g
  pub count : P (length updates)
  pub each : All (λ u. Contains vertices u.vertex) updates
  pub only : All (λ v. Any (λ u. u.vertex ≡ v) updates) vertices
