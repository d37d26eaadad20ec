-- Labels and acceptance conditions, and whether they hold.
use Rattle.std.specs.Prelude.{ℕ, Bool, true, false, ◌||◌, ◌&&◌, if◌then◌else◌}

pub data Formula : Type 0 where
  yes : Formula
  no : Formula
  proposition : ℕ → Formula
  inf : ℕ → Formula
  fin : ℕ → Formula
  not : Formula → Formula
  both : Formula → Formula → Formula
  either : Formula → Formula → Formula
  bracket : Formula → Formula

-- whether a label holds if exactly these propositions do, and a condition if exactly these sets recur
abbrev pub holds : Formula → (ℕ → Bool) → Bool
holds yes on = true
holds no on = false
holds (proposition a) on = on a
holds (inf s) on = on s
holds (fin s) on = if on s then false else true
holds (not f) on = if holds f on then false else true
holds (both f g) on = holds f on && holds g on
holds (either f g) on = holds f on || holds g on
holds (bracket f) on = holds f on
