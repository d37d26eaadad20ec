-- Frames of measures, of either kind.
use Rattle.std.specs.Prelude.{ℕ, ◌+◌, ◌==◌, List, [], ◌∷◌, map, Option, IfSome, if◌then◌else◌, option_map}
use Rattle.std.specs.List.{range_with_len}
use Rattle.pg_wire.specs.declared.frame.Value.{Value}
use Rattle.pg_wire.specs.declared.frame.SparseValue.{SparseValue}
use Rattle.pg_wire.specs.declared.frame.Frame.{Frame}
use Rattle.pg_wire.specs.declared.frame.Frame.TheVariants as frames
use Rattle.pg_wire.specs.declared.kind.ValueKind.{ValueKind}
use Rattle.pg_wire.specs.declared.kind.ValueKind.TheVariants.{Dense, Sparse}
use Rattle.pg_wire.specs.Spelling.{value, sparse_value}
use Rattle.pg_wire.specs.Well.{IsWord, IsComponents}

-- a vertex and its measure: a list, or top, which is `None`
abbrev pub Measured : Type 0
Measured = ℕ × Option (List ℕ)

-- the measure has as many components as the width says
pub record IsMeasured (width : ℕ) (m : Measured) : Type 0 where
  pub vertex : IsWord m.0
  pub list : IfSome m.1 (IsComponents width)

-- the components that aren't 0, each with its place; the first place is `at`
abbrev pub nonzero_from : ℕ → List ℕ → List (ℕ × ℕ)
nonzero_from at [] = []
nonzero_from at (n ∷ ns) = if n == 0 then nonzero_from (at + 1) ns else (at, n) ∷ nonzero_from (at + 1) ns

abbrev pub nonzero : List ℕ → List (ℕ × ℕ)
nonzero ns = nonzero_from 0 ns

-- the number of the pair with this place, or 0
abbrev pub component_in : List (ℕ × ℕ) → ℕ → ℕ
component_in [] k = 0
component_in (p ∷ ps) k = if p.0 == k then p.1 else component_in ps k

-- the list of `width` components that these pairs describe
abbrev pub filled : ℕ → List (ℕ × ℕ) → List ℕ
filled width ps = map (component_in ps) (range_with_len 0 width)

abbrev pub dense_value : Measured → Value
dense_value m = record { vertex = m.0; list = m.1 }

abbrev pub sparse_form : Measured → SparseValue
sparse_form m = record { vertex = m.0; pairs = option_map nonzero m.1 }

-- the measures that values give
abbrev pub told_values : List Value → List Measured
told_values vs = map (λ v. (v.vertex, v.list)) vs

abbrev pub told_sparse : ℕ → List SparseValue → List Measured
told_sparse width vs = map (λ v. (v.vertex, option_map (filled width) v.pairs)) vs

-- the bytes of a vertex and its measure in frames of a kind
abbrev pub spelled_as : ValueKind → Measured → List ℕ
spelled_as Dense m = value (dense_value m)
spelled_as Sparse m = sparse_value (sparse_form m)

-- the byte that names a kind
abbrev pub kind_number : ValueKind → ℕ
kind_number Dense = 3
kind_number Sparse = 7

-- the frame of a kind that has these measures
abbrev pub frame_of : ValueKind → ℕ → List Measured → Frame
frame_of Dense width ms = frames.Values (record { width = width; values = map dense_value ms })
frame_of Sparse width ms = frames.Sparse (record { width = width; values = map sparse_form ms })

-- the frames of measures
abbrev pub TellsMeasures : Frame → Type 0
TellsMeasures (frames.Values v) = Unit {0}
TellsMeasures (frames.Sparse s) = Unit {0}
TellsMeasures f = ⊥
