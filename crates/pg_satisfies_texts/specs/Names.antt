-- Which signals of a circuit the names of a formula mean, by the names that the circuit's symbols give.
use Rattle.std.specs.Prelude.{◌≡◌, ◌≢◌, ◌⊎◌, ℕ, ◌<◌, Bool, true, false, Option, Some, List, [], length, map, take, slice_get, slice_index_or, Contains}
use Rattle.std.specs.Option.{option_map}
use Rattle.pg_aiger.specs.Circuits.{Circuit}
use Rattle.pg_aiger.specs.declared.gate.Latch.{Latch}
use Rattle.pg_aiger.specs.CircuitText.{Kind, input, latch, output, Symbol}
use Rattle.pg_satisfies_texts.specs.FaultTexts.{name_bytes}
use Rattle.pg_satisfies_texts.specs.declared.fault.NameFault.{NameFault}
use Rattle.pg_satisfies_texts.specs.declared.fault.NameFault.TheVariants.{Missing, Ambiguous}

-- the literal of the signal of this kind at this position, if the circuit has it
abbrev pub literal_at : Circuit → Kind → ℕ → Option ℕ
literal_at circuit input position = slice_get circuit.inputs position
literal_at circuit latch position = option_map Latch.literal (slice_get circuit.latches position)
literal_at circuit output position = slice_get circuit.outputs position

-- the literal of the signal that a symbol names
abbrev pub literal_of : Circuit → Symbol → Option ℕ
literal_of circuit s = literal_at circuit s.kind s.position

-- inputs and outputs are the circuit's ports
abbrev pub is_port : Kind → Bool
is_port input = true
is_port latch = false
is_port output = true

-- the symbol gives the name to the literal, which is that of a port, or of a latch if `ports` is false
pub record Gives (circuit : Circuit) (ports : Bool) (name : List ℕ) (literal : ℕ) (s : Symbol) : Type 0 where
  pub of_kind : is_port s.kind ≡ ports
  pub named : s.name ≡ name
  pub at : literal_of circuit s ≡ Some literal

-- some symbol gives the name to the literal
abbrev pub IsGiven : Circuit → List Symbol → Bool → List ℕ → ℕ → Type 0
IsGiven circuit symbols ports name literal = (s : Symbol) × Contains symbols s × Gives circuit ports name literal s

-- no symbol gives the name to any literal
abbrev pub IsNowhere : Circuit → List Symbol → Bool → List ℕ → Type 0
IsNowhere circuit symbols ports name = (literal : ℕ) → ¬ IsGiven circuit symbols ports name literal

-- symbols give the name to the literal, and to no other
abbrev pub IsOnly : Circuit → List Symbol → Bool → List ℕ → ℕ → Type 0
IsOnly circuit symbols ports name literal =
    IsGiven circuit symbols ports name literal × ((other : ℕ) → IsGiven circuit symbols ports name other → other ≡ literal)

-- symbols give the name to two literals
abbrev pub IsTwice : Circuit → List Symbol → Bool → List ℕ → Type 0
IsTwice circuit symbols ports name =
    (one : ℕ) × (other : ℕ) × (one ≢ other) × IsGiven circuit symbols ports name one × IsGiven circuit symbols ports name other

-- The name means the only literal of a port that has it; or, if no port has it, the only literal of a latch that has it.
abbrev pub Means : Circuit → List Symbol → List ℕ → ℕ → Type 0
Means circuit symbols name literal =
    IsOnly circuit symbols true name literal ⊎ (IsNowhere circuit symbols true name × IsOnly circuit symbols false name literal)

-- each of the names means the literal at its place
pub record AreMeant (circuit : Circuit) (symbols : List Symbol) (names : List (List ℕ)) (literals : List ℕ) : Type 0 where
  pub all : length literals ≡ length names
  pub meant : (k : ℕ) → k < length names → Means circuit symbols (slice_index_or names k []) (slice_index_or literals k 0)

-- ---- faults

-- no port and no latch has the name
abbrev pub IsMissing : Circuit → List Symbol → List ℕ → Type 0
IsMissing circuit symbols name = IsNowhere circuit symbols true name × IsNowhere circuit symbols false name

-- the name is given to two literals of ports; or to no port, and to two literals of latches
abbrev pub IsAmbiguous : Circuit → List Symbol → List ℕ → Type 0
IsAmbiguous circuit symbols name =
    IsTwice circuit symbols true name ⊎ (IsNowhere circuit symbols true name × IsTwice circuit symbols false name)

-- the name is one of the names, and each name before it means a literal
pub record IsNext (circuit : Circuit) (symbols : List Symbol) (names : List (List ℕ)) (name : List ℕ) : Type 0 where
  pub place : ℕ
  pub within : place < length names
  pub there : slice_index_or names place [] ≡ name
  pub before : (k : ℕ) → k < place → (literal : ℕ) × Means circuit symbols (slice_index_or names k []) literal

-- The first name that means no literal is missing or ambiguous. A missing name comes with the names that the first symbols give.
abbrev pub IsNameFault : Circuit → List Symbol → List (List ℕ) → NameFault → Type 0
IsNameFault circuit symbols names (Missing name known) =
    IsNext circuit symbols names (name_bytes name) × IsMissing circuit symbols (name_bytes name)
    × (map name_bytes known.items ≡ take 65 (map Symbol.name symbols))
IsNameFault circuit symbols names (Ambiguous name) =
    IsNext circuit symbols names (name_bytes name) × IsAmbiguous circuit symbols (name_bytes name)
