-- Circuits in which no gate waits for itself, whatever the order of their gates.
use Rattle.std.specs.Prelude.{◌≡◌, ◌≢◌, ℕ, suc, ◌+◌, ◌*◌, ◌/◌, ◌%◌, ◌<◌, ◌≤◌, ◌↔◌, ◌⊎◌, Bool, true, List, [], ◌∷◌, ◌++◌, map, Contains, All}
use Rattle.std.specs.List.{AllPairs}
use Rattle.pg_aiger.specs.declared.gate.Gate.{Gate}
use Rattle.pg_aiger.specs.Circuits.{Circuit}
use Rattle.pg_aiger.specs.declared.gate.Latch.{Latch}
use Rattle.pg_aiger.specs.Runs.{Valuation, IsRun}
use Rattle.pg_aiger_netlist.specs.declared.fault.NetlistFault.{NetlistFault}
use Rattle.pg_aiger_netlist.specs.declared.fault.NetlistFault.TheVariants.{OutOfMemory, NotAVariable, DefinedTwice, Undefined, Cycle}

abbrev pub variable : ℕ → ℕ
variable literal = literal / 2

-- the literals that inputs and latches define
abbrev pub sources : Circuit → List ℕ
sources circuit = circuit.inputs ++ map Latch.literal circuit.latches

-- the literals that inputs and latches define, and after them the literals that gates define
abbrev pub definitions : Circuit → List ℕ
definitions circuit = sources circuit ++ map Gate.lhs circuit.gates

-- the literals that gates, latches and outputs use
abbrev pub uses : Circuit → List ℕ
uses circuit = map Gate.rhs0 circuit.gates ++ (map Gate.rhs1 circuit.gates ++ (map Latch.next circuit.latches ++ circuit.outputs))

-- the constant's variable, and the variables of the literals
abbrev pub known_by : List ℕ → List ℕ
known_by literals = 0 ∷ map variable literals

abbrev pub IsUsedBy : Gate → ℕ → Type 0
IsUsedBy gate x = (variable gate.rhs0 ≡ x) ⊎ (variable gate.rhs1 ≡ x)

-- each gate uses only variables that are known, or that gates before it define, and makes a new one known
abbrev pub AreOrdered : List ℕ → List Gate → Type 0
AreOrdered known [] = Unit {0}
AreOrdered known (gate ∷ rest) =
    (Contains known (variable gate.lhs) → ⊥) × ((x : ℕ) → IsUsedBy gate x → Contains known x)
    × AreOrdered (variable gate.lhs ∷ known) rest

-- a literal that can define a variable: it isn't negated, and its variable is from 1 to the greatest
pub record IsPlain (greatest literal : ℕ) : Type 0 where
  pub even : literal % 2 ≡ 0
  pub some : 0 < literal
  pub within : variable literal ≤ greatest

-- Inputs, latches and gates define variables of their own, each variable that is used is the constant's or one of those, and the gates
-- can be put into an order in which each uses only variables that are known before it.
pub record IsAcyclic (circuit : Circuit) : Type 0 where
  pub plain : All (IsPlain circuit.greatest) (definitions circuit)
  pub distinct : AllPairs (λ x y. x ≢ y) (map variable (definitions circuit))
  pub used : All (λ literal. Contains (known_by (definitions circuit)) (variable literal)) (uses circuit)
  pub ordered : List Gate
  pub same : (gate : Gate) → Contains ordered gate ↔ Contains circuit.gates gate
  pub in_order : AreOrdered (known_by (sources circuit)) ordered

-- the variable occurs in the list, and once more before that
abbrev pub IsTwice : List ℕ → ℕ → Type 0
IsTwice xs x = (before : List ℕ) × (after : List ℕ) × (xs ≡ before ++ x ∷ after) × Contains before x

-- Each of these variables is defined by a gate that uses one of them. So no order of the gates has a first of them.
abbrev pub IsKnot : Circuit → (ℕ → Bool) → Type 0
IsKnot circuit among =
    (x : ℕ) → among x ≡ true
    → (gate : Gate) × (y : ℕ) × Contains circuit.gates gate × (variable gate.lhs ≡ x) × IsUsedBy gate y × (among y ≡ true)

-- what each fault says about a circuit
abbrev pub IsFaultOf : Circuit → NetlistFault → Type 0
IsFaultOf circuit OutOfMemory = Unit {0}
IsFaultOf circuit (NotAVariable literal) = Contains (definitions circuit) literal × (IsPlain circuit.greatest literal → ⊥)
IsFaultOf circuit (DefinedTwice x) = IsTwice (map variable (definitions circuit)) x
IsFaultOf circuit (Undefined x) =
    ((literal : ℕ) × Contains (uses circuit) literal × (variable literal ≡ x)) × (Contains (known_by (definitions circuit)) x → ⊥)
IsFaultOf circuit (Cycle x) = (among : ℕ → Bool) × IsKnot circuit among × (among x ≡ true)

-- Each list of input letters has exactly one run, and the run of a longer list starts with the run of a shorter one: as long as both
-- last, they give each defined variable the same value. Nothing uses a variable that nothing defines, and it can have any value.
pub record HasOneRun (circuit : Circuit) (input : ℕ → ℕ) : Type 0 where
  pub some : (count : ℕ) → (run : ℕ → Valuation) × IsRun circuit input count run
  pub one : (shorter longer : ℕ) (first second : ℕ → Valuation) → shorter ≤ longer
      → IsRun circuit input shorter first → IsRun circuit input longer second
      → (t x : ℕ) → t < shorter → Contains (known_by (definitions circuit)) x → first t x ≡ second t x
