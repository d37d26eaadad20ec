-- What a look at the vertices that rose has to go over.
use Rattle.std.specs.Prelude.{ℕ, ◌+◌, ◌-◌, ◌⊎◌, List, length, take, drop, min, All, Option, IsSome, slice_index_or}
use Rattle.std.specs.List.{Contains}
use Rattle.pg_map.specs.Lines.{Line, line_at}
use Rattle.pg_map.specs.Maps.{IsServed}
use Rattle.pg_measure.specs.Measures.{BoundList, MeasureValue}

-- the part of a list from one place to another
abbrev pub run_of : List ℕ → ℕ → ℕ → List ℕ
run_of xs from to = take (to - from) (drop from xs)

-- where the run of v ends
abbrev pub end_of : List ℕ → List ℕ → ℕ → ℕ
end_of starts sources v = min (slice_index_or starts (v + 1) 0) (length sources)

-- the vertices that are listed as leading to v
abbrev pub sources_of : List ℕ → List ℕ → ℕ → List ℕ
sources_of starts sources v = run_of sources (min (slice_index_or starts v 0) (end_of starts sources v)) (end_of starts sources v)

-- v is listed as leading to each of these vertices
abbrev pub IsListed : List ℕ → List ℕ → ℕ → List ℕ → Type 0
IsListed starts sources v ws = All (λ w. Contains (sources_of starts sources w) v) ws

-- each vertex is listed as leading to each of its successors
abbrev pub ListsAll : List ℕ → List ℕ → (ℕ → Option Line) → Type 0
ListsAll starts sources lines = (v : ℕ) → IsSome (lines v) → IsListed starts sources v (line_at lines v).successors

-- those of these vertices that are held are served
abbrev pub AreServed : BoundList → (ℕ → Option Line) → List MeasureValue → List ℕ → Type 0
AreServed bounds lines f vs = All (λ v. IsSome (lines v) → IsServed bounds lines f v) vs

-- a successor of v has risen
pub record HasRisen (lines : ℕ → Option Line) (risen : List ℕ) (v : ℕ) : Type 0 where
  pub w : ℕ
  pub follows : Contains (line_at lines v).successors w
  pub rose : Contains risen w

-- each vertex is served, or one of its successors has risen
abbrev pub AreServedBut : BoundList → (ℕ → Option Line) → List MeasureValue → List ℕ → Type 0
AreServedBut bounds lines f risen = (v : ℕ) → IsSome (lines v) → IsServed bounds lines f v ⊎ HasRisen lines risen v

-- what a watch that is on knows
pub record IsWatch (bounds : BoundList) (lines : ℕ → Option Line) (f : List MeasureValue) (starts sources risen : List ℕ) : Type 0 where
  pub listed : ListsAll starts sources lines
  pub served : AreServedBut bounds lines f risen
