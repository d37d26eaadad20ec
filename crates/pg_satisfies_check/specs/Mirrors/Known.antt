-- What is known of the values of variables in a step.
use Rattle.std.specs.Prelude.{◌≡◌, ℕ, ◌/◌, ◌%◌, ◌<◌, Bool, true, not, ◌&&◌, nat_eq, List, Option, Some, None, option_map}
use Rattle.std.specs.Prelude.{slice_index_or, if◌then◌else◌}
use Rattle.pg_aiger.specs.declared.gate.Gate.{Gate}
use Rattle.pg_aiger.specs.Runs.{Valuation, value}
use Rattle.pg_ltl.specs.Tableaux.{Each}
use Rattle.pg_satisfies_check.specs.declared.system.Bit.{Bit}

abbrev pub known_at : List (Option Bool) → ℕ → Option Bool
known_at row x = slice_index_or row x None

abbrev pub literal_in : List (Option Bool) → ℕ → Option Bool
literal_in row l = option_map (λ b. if nat_eq (l % 2) 1 then not b else b) (known_at row (l / 2))

-- what is known is so
abbrev pub IsKnown : List (Option Bool) → Valuation → Type 0
IsKnown row u = (x : ℕ) (b : Bool) → known_at row x ≡ Some b → u x ≡ b

-- nothing is known
abbrev pub IsBlank : List (Option Bool) → Type 0
IsBlank row = (x : ℕ) → known_at row x ≡ None

-- where P is so, no contradiction is found, and what is known then is so
abbrev pub Learns : (Valuation → Type 0) → List (Option Bool) → Bool → List (Option Bool) → Type 0
Learns P old ok new = (u : Valuation) → P u → IsKnown old u → (ok ≡ true) × IsKnown new u

-- the gate is the conjunction of its two literals
abbrev pub Meets : Valuation → Gate → Type 0
Meets v gate = value v gate.lhs ≡ (value v gate.rhs0 && value v gate.rhs1)

-- the values at the places of these latches are known to be these ones
abbrev pub Follow : ℕ → List (Option Bool) → List Bit → Type 0
Follow latches row bits = Each (λ (b : Bit). (b.latch < latches) × (known_at row b.latch ≡ Some b.value)) bits
