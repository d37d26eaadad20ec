-- The ranges and orders of the fields of a frame.
use Rattle.std.specs.Prelude.{◌≡◌, ℕ, ◌%◌, ◌<◌, ◌≤◌, ◌^◌, ◌⊎◌, List, length, IfSome, All}
use Rattle.std.specs.List.{AllPairs}
use Rattle.pg_wire.specs.declared.frame.Setup.{Setup}
use Rattle.pg_wire.specs.declared.frame.VertexLine.{VertexLine}
use Rattle.pg_wire.specs.declared.frame.Vertices.{Vertices}
use Rattle.pg_wire.specs.declared.frame.Value.{Value}
use Rattle.pg_wire.specs.declared.frame.Values.{Values}
use Rattle.pg_wire.specs.declared.frame.SparseValue.{SparseValue}
use Rattle.pg_wire.specs.declared.frame.Sparse.{Sparse}
use Rattle.pg_wire.specs.declared.frame.Report.{Report}
use Rattle.pg_wire.specs.declared.frame.Frame.{Frame}
use Rattle.pg_wire.specs.declared.frame.Frame.TheVariants as frames

-- four bytes hold it
abbrev pub IsWord : ℕ → Type 0
IsWord n = n < 2 ^ 32

-- four bytes hold the number of items
abbrev pub IsCountable : {A : Type 0} → List A → Type 0
IsCountable xs = IsWord (length xs)

-- an odd priority, and the bound of its component
pub record IsBound (p : ℕ × ℕ) : Type 0 where
  pub odd : p.0 % 2 ≡ 1
  pub priority : p.0 ≤ 65535
  pub some : 1 ≤ p.1
  pub bound : IsWord p.1

-- priorities in falling order
pub record AreBounds (ps : List (ℕ × ℕ)) : Type 0 where
  pub countable : IsCountable ps
  pub bounds : All IsBound ps
  pub falling : AllPairs (λ p q. q.0 < p.0) ps

pub record IsSetup (s : Setup) : Type 0 where
  pub version : (1 ≤ s.version) × (s.version ≤ 2)
  pub vertices : (1 ≤ s.vertices) × (s.vertices ≤ 1048576)
  pub bounds : AreBounds s.bounds

-- player 0 or 1 owns the vertex; the successors rise
pub record IsVertexLine (l : VertexLine) : Type 0 where
  pub vertex : IsWord l.vertex
  pub priority : l.priority ≤ 65536
  pub owner : l.owner ≤ 1
  pub some : 1 ≤ length l.successors
  pub countable : IsCountable l.successors
  pub successors : All IsWord l.successors
  pub rising : AllPairs (λ v w. v < w) l.successors

pub record IsVertices (v : Vertices) : Type 0 where
  pub countable : IsCountable v.lines
  pub lines : All IsVertexLine v.lines
  pub rising : AllPairs (λ l m. l.vertex < m.vertex) v.lines

-- the list has as many numbers as the width says
pub record IsComponents (width : ℕ) (ns : List ℕ) : Type 0 where
  pub size : length ns ≡ width
  pub numbers : All IsWord ns

pub record IsValue (width : ℕ) (v : Value) : Type 0 where
  pub vertex : IsWord v.vertex
  pub list : IfSome v.list (IsComponents width)

pub record IsValues (v : Values) : Type 0 where
  pub width : v.width ≤ 32768
  pub countable : IsCountable v.values
  pub values : All (IsValue v.width) v.values
  pub rising : AllPairs (λ x y. x.vertex < y.vertex) v.values

-- a place below the width, and the number there, which isn't 0
pub record IsPlace (width : ℕ) (p : ℕ × ℕ) : Type 0 where
  pub place : p.0 < width
  pub some : 1 ≤ p.1
  pub number : IsWord p.1

-- places in rising order
pub record ArePlaces (width : ℕ) (ps : List (ℕ × ℕ)) : Type 0 where
  pub size : length ps ≤ width
  pub places : All (IsPlace width) ps
  pub rising : AllPairs (λ p q. p.0 < q.0) ps

pub record IsSparseValue (width : ℕ) (v : SparseValue) : Type 0 where
  pub vertex : IsWord v.vertex
  pub pairs : IfSome v.pairs (ArePlaces width)

pub record IsSparse (s : Sparse) : Type 0 where
  pub width : s.width ≤ 32768
  pub countable : IsCountable s.values
  pub values : All (IsSparseValue s.width) s.values
  pub rising : AllPairs (λ x y. x.vertex < y.vertex) s.values

-- 1 to 4 are faults of a worker, 11 to 18 faults of a frame
abbrev pub IsFaultCode : ℕ → Type 0
IsFaultCode code = ((1 ≤ code) × (code ≤ 4)) ⊎ ((11 ≤ code) × (code ≤ 18))

-- status 0 (more to lift) or 1 (quiet) with code 0, or 2 (refused) with the code of a fault
abbrev pub IsReport : Report → Type 0
IsReport r = ((r.status ≤ 1) × (r.code ≡ 0)) ⊎ ((r.status ≡ 2) × IsFaultCode r.code)

abbrev pub IsWell : Frame → Type 0
IsWell (frames.Setup s) = IsSetup s
IsWell (frames.Vertices v) = IsVertices v
IsWell (frames.Values v) = IsValues v
IsWell (frames.Go g) = IsWord g.budget
IsWell (frames.Report r) = IsReport r
IsWell frames.Halt = Unit {0}
IsWell (frames.Sparse s) = IsSparse s
