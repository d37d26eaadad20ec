-- What one side has settled: where a closed map has a list every closed map of the dual has top.
use Rattle.pg_solver.proofs.Common.{◌≡◌, ℕ, ◌+◌, ◌<◌, None, List, subst, Option, All, IsSome, All-contains, Player, Even, Odd, BoundList}
use Rattle.pg_solver.proofs.Common.{MeasureValue, Covers, Line, AreWithin, line_at, AreDual, measure_at, SomeOrAll, IsClosed, dual_held}
use Rattle.pg_solver.proofs.Common.{dual_at, both_serve, none_both, is_top}

-- what holds of all successors holds of those that serve
with_all : (o : Player) (R P : ℕ → Type 0) (ss : List ℕ) → All R ss → SomeOrAll o P ss → SomeOrAll o (λ w. R w × P w) ss
with_all Even R P ss all any = (any.0, any.1, any.2, any.3, (All-contains R ss any.1 all (any.0, any.2, any.3), any.4))
with_all Odd R P ss all served = λ k d lt. (all k d lt, served k d lt)

module _ (bounds dual_bounds : BoundList) (lines other : ℕ → Option Line) (n : ℕ) (f g : List MeasureValue) (dual : AreDual lines other)
    (within : AreWithin n lines) (all : (v : ℕ) → v < n → IsSome (lines v)) (closed : IsClosed bounds lines f) (dual_closed : IsClosed dual_bounds other g) where
  serve : (v : ℕ) → v < n → (w : ℕ) × (w < n)
      × Covers bounds (line_at lines v).priority (measure_at f v) (measure_at f w)
      × Covers dual_bounds ((line_at lines v).priority + 1) (measure_at g v) (measure_at g w)
  serve v lt =
      let l = line_at lines v in
      let held = all v lt in
      let P = λ (w : ℕ). Covers bounds l.priority (measure_at f v) (measure_at f w) in
      let Q = λ (w : ℕ). Covers dual_bounds (l.priority + 1) (measure_at g v) (measure_at g w) in
      let first = with_all l.owner (λ w. w < n) P l.successors (within.successors v held) (closed v held) in
      let second = subst (λ (k : Line). SomeOrAll k.owner (λ w. Covers dual_bounds k.priority (measure_at g v) (measure_at g w)) k.successors)
      (dual_at lines other v dual held) (dual_closed v (dual_held lines other v dual held)) in
      let b = both_serve l.owner (λ w. (w < n) × P w) Q l.successors first second in
      (b.0, b.1.0, b.1.1, b.2)

  pub no_list_in_both : (v : ℕ) → v < n → IsSome (measure_at f v) → IsSome (measure_at g v) → ⊥
  no_list_in_both v lt first second =
      none_both bounds dual_bounds (λ u. (line_at lines u).priority) f g n (λ u. u < n) (λ u less. less) serve v
      (record { held = lt; first = first; second = second })

  -- so where one has a list the other has top
  pub dual_top : (v : ℕ) → v < n → IsSome (measure_at f v) → measure_at g v ≡ None
  dual_top v lt list = is_top (measure_at g v) (no_list_in_both v lt list)

  pub top : (v : ℕ) → v < n → IsSome (measure_at g v) → measure_at f v ≡ None
  top v lt list = is_top (measure_at f v) (λ first. no_list_in_both v lt first list)
