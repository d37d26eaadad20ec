-- Rows of marks, one for each variable.
use Rattle.std.specs.Prelude.{◌≡◌, ◌≢◌, ℕ, ◌+◌, ◌<◌, ◌≤◌, ◌↔◌, ◌⊎◌, Bool, true, false, List, length, slice_index_or, map, Contains, All}
use Rattle.pg_aiger.specs.declared.gate.Gate.{Gate}
use Rattle.pg_aiger_netlist.specs.Netlists.{variable, IsUsedBy, IsPlain, IsTwice, AreOrdered}
use Rattle.pg_aiger_netlist.specs.declared.fault.NetlistFault.{NetlistFault}
use Rattle.pg_aiger_netlist.specs.declared.fault.NetlistFault.TheVariants.{OutOfMemory, NotAVariable, DefinedTwice, Undefined, Cycle}

abbrev pub marked : List Bool → ℕ → Bool
marked row x = slice_index_or row x false

-- the marked variables are those in the list
abbrev pub AreMarked : List Bool → List ℕ → Type 0
AreMarked row known = (x : ℕ) → (marked row x ≡ true) ↔ Contains known x

-- the faults of literals that don't define variables of their own
abbrev pub IsFaultIn : ℕ → List ℕ → NetlistFault → Type 0
IsFaultIn greatest literals OutOfMemory = Unit {0}
IsFaultIn greatest literals (NotAVariable literal) = Contains literals literal × (IsPlain greatest literal → ⊥)
IsFaultIn greatest literals (DefinedTwice x) = IsTwice (map variable literals) x
IsFaultIn greatest literals fault = ⊥

-- the faults of literals that are used, if these variables are defined
abbrev pub IsUseFault : List Bool → List ℕ → NetlistFault → Type 0
IsUseFault row uses (Undefined x) = ((literal : ℕ) × Contains uses literal × (variable literal ≡ x)) × (marked row x ≡ false)
IsUseFault row uses fault = ⊥

abbrev pub variable_of : Gate → ℕ
variable_of gate = variable gate.lhs

-- the gate's variables are below the bound
pub record IsWithin (bound : ℕ) (gate : Gate) : Type 0 where
  pub lhs : variable gate.lhs < bound
  pub rhs0 : variable gate.rhs0 < bound
  pub rhs1 : variable gate.rhs1 < bound

-- the gates in order are some of all, each uses only variables that are known before it, and the marks are the variables that are known
-- then
pub record IsSorted (first : List ℕ) (all : List Gate) (known : List Bool) (ordered : List Gate) : Type 0 where
  pub marks : (x : ℕ) → (marked known x ≡ true) ↔ (Contains first x ⊎ Contains (map variable_of ordered) x)
  pub in_order : AreOrdered first ordered
  pub from : (gate : Gate) → Contains ordered gate → Contains all gate

-- the gate isn't in order yet, and it can't be appended to those that are
pub record IsStuck (known : List Bool) (gate : Gate) : Type 0 where
  pub unknown : marked known (variable_of gate) ≡ false
  pub used : ℕ
  pub uses : IsUsedBy gate used
  pub waits : marked known used ≡ false

-- the marks and the order after a pass over gates, and the gates that wait after it
pub record HasPassed (old : List Bool) (before gates : List Gate) (known : List Bool) (ordered waiting : List Gate) : Type 0 where
  pub as_long : length known ≡ length old
  pub grown : (x : ℕ) → marked old x ≡ true → marked known x ≡ true
  pub covers : (gate : Gate) → Contains gates gate → (marked known (variable_of gate) ≡ true) ⊎ Contains waiting gate
  pub from : (gate : Gate) → Contains waiting gate → Contains gates gate
  pub more : length before ≤ length ordered
  pub few : length waiting + length ordered ≤ length gates + length before
  pub stuck : length ordered ≡ length before → (gate : Gate) → Contains waiting gate → IsStuck known gate
  pub sorted : (first : List ℕ) (all : List Gate) → ((gate : Gate) → Contains gates gate → Contains all gate)
      → IsSorted first all old before → IsSorted first all known ordered

-- the gates that aren't in order yet are among those that wait
pub record IsUnderWay (old : List Bool) (gates : List Gate) (known : List Bool) (ordered waiting : List Gate) : Type 0 where
  pub as_long : length known ≡ length old
  pub grown : (x : ℕ) → marked old x ≡ true → marked known x ≡ true
  pub covers : (gate : Gate) → Contains gates gate → (marked known (variable_of gate) ≡ true) ⊎ Contains waiting gate
  pub from : (gate : Gate) → Contains waiting gate → Contains gates gate
  pub sorted : (first : List ℕ) → AreMarked old first → IsSorted first gates known ordered

-- all gates are in order
pub record IsWhole (old : List Bool) (gates ordered : List Gate) : Type 0 where
  pub known : List Bool
  pub all : (gate : Gate) → Contains gates gate → marked known (variable_of gate) ≡ true
  pub sorted : (first : List ℕ) → AreMarked old first → IsSorted first gates known ordered

-- a gate with this variable is among gates each of which waits for one of them
pub record IsCycle (old : List Bool) (gates : List Gate) (x : ℕ) : Type 0 where
  pub known : List Bool
  pub grown : (y : ℕ) → marked old y ≡ true → marked known y ≡ true
  pub stuck : (gate : Gate) → Contains gates gate → (marked known (variable_of gate) ≡ true) ⊎ IsStuck known gate
  pub here : Gate
  pub there : Contains gates here
  pub named : variable_of here ≡ x
  pub unknown : marked known x ≡ false

abbrev pub IsOrderFault : List Bool → List Gate → NetlistFault → Type 0
IsOrderFault old gates OutOfMemory = Unit {0}
IsOrderFault old gates (Cycle x) = IsCycle old gates x
IsOrderFault old gates fault = ⊥
