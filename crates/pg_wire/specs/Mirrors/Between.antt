-- A reader of measures between a vertex and its list.
use Rattle.std.specs.Prelude.{◌≡◌, ℕ, ◌≤◌, Bool, true, false, List, [], ◌∷◌, ◌++◌, Option, Some, None, All}
use Rattle.std.specs.List.{flat_map}
use Rattle.pg_wire.specs.declared.reader.ValuesReader.{ValuesReader}
use Rattle.pg_wire.specs.Measured.{Measured, IsMeasured, spelled_as}
use Rattle.pg_wire.specs.Well.{IsComponents}
use Rattle.pg_wire.specs.Left.{IsLeft}
use Rattle.pg_wire.specs.Mirrors.Formats.{measure}

-- this list comes next, and then these measures
pub record IsListNext (r : ValuesReader) (list : List ℕ) (ms : List Measured) : Type 0 where
  pub width : r.width ≤ 32768
  pub components : IsComponents r.width list
  pub measures : All (IsMeasured r.width) ms
  pub spelled : r.bytes.now ≡ (measure r.kind r.width).spelled list ++ flat_map (spelled_as r.kind) ms

-- the first vertex of the measures that were left was read
abbrev pub IsNextVertex : List Measured → ValuesReader → Option (ℕ × Bool) → Type 0
IsNextVertex [] r answer = (answer ≡ None) × IsLeft r []
IsNextVertex ((v, None) ∷ ms) r answer = (answer ≡ Some (v, true)) × IsLeft r ms
IsNextVertex ((v, Some list) ∷ ms) r answer = (answer ≡ Some (v, false)) × IsListNext r list ms
