-- The six shapes of a parity condition over sets 0, 1, ..
use Rattle.std.specs.Prelude.{◌≡◌, ℕ, suc, zero, ◌<◌, ◌%◌, ◌==◌, Bool, false, IsTrue, Option, Some, None, if◌then◌else◌, ◌⊎◌}
use Rattle.pg_hoa_automaton.specs.Formulas.{Formula, yes, no, proposition, inf, fin, not, both, either, bracket}
use Rattle.pg_hoa_automaton.specs.declared.shape.Shape.{Shape}
use Rattle.pg_hoa_automaton.specs.declared.shape.Shape.TheVariants.{MaxEven, MaxOdd, MinEven, MinOdd, Always, Never}

abbrev pub is_even : ℕ → Bool
is_even k = k % 2 == 0

-- a set of the good parity recurs, or else the other sets decide; a set of the other parity doesn't recur, and the
-- other sets decide
abbrev pub decides : Bool → ℕ → Formula → Formula
decides good k others = if good then either (inf k) others else both (fin k) others

abbrev pub leaf : Bool → ℕ → Formula
leaf good k = if good then inf k else fin k

-- the sets from k down to 0 where the even ones are good, and where the odd ones are
abbrev pub max_even : ℕ → Formula
max_even zero = inf 0
max_even (suc k) = decides (is_even (suc k)) (suc k) (max_even k)

abbrev pub max_odd : ℕ → Formula
max_odd zero = fin 0
max_odd (suc k) = decides (is_even k) (suc k) (max_odd k)

-- the sets from k up to k + more, where the even ones are good, and where the odd ones are
abbrev pub min_even : ℕ → ℕ → Formula
min_even k zero = leaf (is_even k) k
min_even k (suc more) = decides (is_even k) k (min_even (suc k) more)

abbrev pub min_odd : ℕ → ℕ → Formula
min_odd k zero = leaf (is_even (suc k)) k
min_odd k (suc more) = decides (is_even (suc k)) k (min_odd (suc k) more)

-- the condition of a shape over the given number of sets
abbrev pub condition_of : Shape → ℕ → Option Formula
condition_of MaxEven (suc k) = Some (max_even k)
condition_of MaxOdd (suc k) = Some (max_odd k)
condition_of MinEven (suc k) = Some (min_even 0 k)
condition_of MinOdd (suc k) = Some (min_odd 0 k)
condition_of Always zero = Some yes
condition_of Never zero = Some no
condition_of _ _ = None

-- none of the sets below the given number recurs
abbrev pub NoneRecurs : (ℕ → Bool) → ℕ → Type 0
NoneRecurs on sets = (k : ℕ) → k < sets → on k ≡ false

pub record IsGreatest (on : ℕ → Bool) (sets : ℕ) (k : ℕ) : Type 0 where
  pub below : k < sets
  pub recurs : IsTrue (on k)
  pub last : (j : ℕ) → k < j → j < sets → on j ≡ false

pub record IsLeast (on : ℕ → Bool) (sets : ℕ) (k : ℕ) : Type 0 where
  pub below : k < sets
  pub recurs : IsTrue (on k)
  pub first : (j : ℕ) → j < k → on j ≡ false

-- Of the sets that recur, the greatest or the least has the shape's parity; or none recurs, and the shape accepts that.
abbrev pub Accepts : Shape → ℕ → (ℕ → Bool) → Type 0
Accepts MaxEven sets on = (k : ℕ) × IsGreatest on sets k × (k % 2 ≡ 0)
Accepts MaxOdd sets on = ((k : ℕ) × IsGreatest on sets k × (k % 2 ≡ 1)) ⊎ NoneRecurs on sets
Accepts MinEven sets on = ((k : ℕ) × IsLeast on sets k × (k % 2 ≡ 0)) ⊎ (NoneRecurs on sets × (sets % 2 ≡ 0))
Accepts MinOdd sets on = ((k : ℕ) × IsLeast on sets k × (k % 2 ≡ 1)) ⊎ (NoneRecurs on sets × (sets % 2 ≡ 1))
Accepts Always sets on = Unit {0}
Accepts Never sets on = ⊥

-- the formula without brackets
abbrev pub bare : Formula → Formula
bare (not f) = not (bare f)
bare (both f g) = both (bare f) (bare g)
bare (either f g) = either (bare f) (bare g)
bare (bracket f) = bare f
bare yes = yes
bare no = no
bare (proposition a) = proposition a
bare (inf s) = inf s
bare (fin s) = fin s

-- the same up to the order of two operands
abbrev pub IsLike : Formula → Formula → Type 0
IsLike (both f g) h = (a : Formula) × (b : Formula) × (h ≡ both a b) × ((IsLike f a × IsLike g b) ⊎ (IsLike f b × IsLike g a))
IsLike (either f g) h = (a : Formula) × (b : Formula) × (h ≡ either a b) × ((IsLike f a × IsLike g b) ⊎ (IsLike f b × IsLike g a))
IsLike f h = h ≡ f

-- the written condition has the shape, up to the order of operands and brackets
abbrev pub FitsShape : Formula → ℕ → Shape → Type 0
FitsShape written sets shape = (f : Formula) × (condition_of shape sets ≡ Some f) × IsLike f (bare written)

abbrev pub place : Shape → ℕ
place MaxEven = 0
place MaxOdd = 1
place MinEven = 2
place MinOdd = 3
place Always = 4
place Never = 5

-- the first shape that fits
pub record HasShape (written : Formula) (sets : ℕ) (shape : Shape) : Type 0 where
  pub fits : FitsShape written sets shape
  pub first : (other : Shape) → place other < place shape → FitsShape written sets other → ⊥
