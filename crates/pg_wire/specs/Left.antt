-- The measures of a frame that are still to be read.
use Rattle.std.specs.Prelude.{◌≡◌, ℕ, ◌≤◌, Bool, true, false, List, [], ◌∷◌, Option, Some, None, All}
use Rattle.std.specs.List.{flat_map}
use Rattle.pg_wire.specs.declared.reader.ValuesReader.{ValuesReader}
use Rattle.pg_wire.specs.Measured.{Measured, IsMeasured, spelled_as}

-- these measures are left
pub record IsLeft (r : ValuesReader) (ms : List Measured) : Type 0 where
  pub width : r.width ≤ 32768
  pub measures : All (IsMeasured r.width) ms
  pub spelled : r.bytes.now ≡ flat_map (spelled_as r.kind) ms

-- the row after a vertex's measure was read into it, and whether the measure is top
abbrev pub row_of : Option (List ℕ) → List ℕ → List ℕ
row_of (Some list) row = list
row_of None row = row

abbrev pub is_top : Option (List ℕ) → Bool
is_top (Some list) = false
is_top None = true

-- the first of the measures that were left was read, and the others are left
abbrev pub IsNext : List Measured → ValuesReader → List ℕ → List ℕ → Option (ℕ × Bool) → Type 0
IsNext [] r row row' answer = (answer ≡ None) × (row' ≡ row) × IsLeft r []
IsNext (m ∷ ms) r row row' answer = (answer ≡ Some (m.0, is_top m.1)) × (row' ≡ row_of m.1 row) × IsLeft r ms
