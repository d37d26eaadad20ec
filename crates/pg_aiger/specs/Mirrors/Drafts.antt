-- Gates while they are being made.
use Rattle.std.specs.Prelude.{◌≡◌, ℕ, zero, suc, ◌+◌, ◌*◌, ◌^◌, ◌<◌, ◌≤◌, Bool, false, List, length, cond, fold}
use Rattle.pg_aiger.specs.Circuits.{AreGatesFrom}
use Rattle.pg_aiger.specs.Runs.{Valuation, value, Satisfies}
pub use Rattle.pg_aiger.specs.Construction.{Drafted}
use Rattle.pg_aiger.specs.Construction.{Made, conjunction}

pub record IsDraft (draft : Drafted) : Type 0 where
  pub positive : 0 < draft.base
  pub within : draft.base + length draft.gates ≤ 2 ^ 30
  pub ordered : AreGatesFrom draft.base draft.gates

-- a literal of a variable that is defined so far, or of one below the base
abbrev pub IsLiteral : Drafted → ℕ → Type 0
IsLiteral draft literal = literal < 2 * (draft.base + length draft.gates)

abbrev pub HasRoom : Drafted → ℕ → Type 0
HasRoom draft count = draft.base + length draft.gates + count ≤ 2 ^ 30

-- a valuation that satisfies the later gates satisfies the earlier ones, of which there are at most `count` fewer
pub record Extends (count : ℕ) (old new : Drafted) : Type 0 where
  pub base : new.base ≡ old.base
  pub kept : (v : Valuation) → Satisfies v new.gates → Satisfies v old.gates
  pub longer : length old.gates ≤ length new.gates
  pub shorter : length new.gates ≤ length old.gates + count

-- in every valuation that satisfies the gates, the literal is true exactly if the meaning is
abbrev pub Means : Drafted → ℕ → (Valuation → Bool) → Type 0
Means draft literal meaning = (v : Valuation) → v 0 ≡ false → Satisfies v draft.gates → value v literal ≡ meaning v

-- the number whose bits are the `count` variables from `first` on
abbrev pub number_at : Valuation → ℕ → ℕ → ℕ
number_at v first zero = 0
number_at v first (suc count) = number_at v first count + cond (v (first + count)) (2 ^ count) 0

-- the conjunction of a literal and the literals of a list, from the left
abbrev pub conjunction_with : Drafted → ℕ → List ℕ → Made
conjunction_with draft start literals = fold (λ (so_far : Made) literal. conjunction so_far.0 so_far.1 literal) (draft, start) literals
