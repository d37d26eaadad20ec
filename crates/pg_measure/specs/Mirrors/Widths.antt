-- The widths that bounds keep at hand.
use Rattle.std.specs.Prelude.{◌≡◌, ℕ, ◌<◌, List, length, slice_index}
use Rattle.pg_measure.specs.Measures.{BoundList, width_from}

-- the number at each priority is how many bounds have at least that priority
abbrev pub AreWidths : BoundList → List ℕ → Type 0
AreWidths bounds widths = (p : ℕ) → p < length widths → slice_index widths p ≡ width_from bounds p
