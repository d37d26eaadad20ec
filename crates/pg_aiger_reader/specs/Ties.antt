-- How the inputs and outputs of a circuit match the propositions of an automaton.
use Rattle.std.specs.Prelude.{◌≡◌, ◌≢◌, ◌⊎◌, ℕ, ◌+◌, ◌<◌, Bool, true, false, List, [], ◌∷◌, length, map, get_or, Contains}
use Rattle.std.specs.List.{AllPairs}
use Rattle.pg_hoa_automaton.specs.Automata.{Automaton}
use Rattle.pg_aiger.specs.Circuits.{Circuit}
use Rattle.pg_aiger.specs.CircuitText.{Kind, input, latch, output, Symbol}
use Rattle.pg_aiger.specs.CircuitLayout.{input_names, output_names}
use Rattle.pg_aiger_reader.specs.declared.fault.SideFault.{SideFault}
use Rattle.pg_aiger_reader.specs.declared.fault.SideFault.TheVariants.{Missing, Twice, Shared, Nameless, Extra, Short, Long}
use Rattle.pg_aiger_reader.specs.declared.fault.TieFault.{TieFault}
use Rattle.pg_aiger_reader.specs.declared.fault.TieFault.TheVariants.{OutOfMemory, NoSymbols, Inputs, Outputs}

-- the symbol gives the name to this place, one of the first `count` of the kind
pub record Gives (kind : Kind) (count : ℕ) (name : List ℕ) (place : ℕ) (s : Symbol) : Type 0 where
  pub of_kind : s.kind ≡ kind
  pub named : s.name ≡ name
  pub at : s.position ≡ place
  pub within : place < count

-- some symbol gives the name to the place
abbrev pub IsNamed : Kind → ℕ → List Symbol → List ℕ → ℕ → Type 0
IsNamed kind count symbols name place = (s : Symbol) × Contains symbols s × Gives kind count name place s

-- the symbol gives a place of the kind a name that isn't among these
pub record IsUnknown (kind : Kind) (count : ℕ) (names : List (List ℕ)) (s : Symbol) : Type 0 where
  pub of_kind : s.kind ≡ kind
  pub within : s.position < count
  pub other : ¬ Contains names s.name

abbrev pub AreKnown : Kind → ℕ → List Symbol → List (List ℕ) → Type 0
AreKnown kind count symbols names = (s : Symbol) → Contains symbols s → ¬ IsUnknown kind count names s

-- Each name has a place of its own: symbols give it to that place, and to no other. Symbols give no other name, and no place is left over.
pub record AreNamed (kind : Kind) (count : ℕ) (symbols : List Symbol) (names : List (List ℕ)) (places : List ℕ) : Type 0 where
  pub all : length places ≡ length names
  pub named : (k : ℕ) → k < length names → IsNamed kind count symbols (get_or names k []) (get_or places k 0)
  pub nowhere_else : (k place : ℕ) → k < length names → IsNamed kind count symbols (get_or names k []) place → place ≡ get_or places k 0
  pub apart : AllPairs (λ p q. p ≢ q) places
  pub known : AreKnown kind count symbols names
  pub none_left : (place : ℕ) → place < count → Contains places place

-- the literals at these places
abbrev pub literals_at : List ℕ → List ℕ → List ℕ
literals_at literals places = map (λ place. get_or literals place 0) places

-- the literals of these names in their order: by symbols, or else all literals as they are, if there are as many as names
abbrev pub AreTied : Bool → Kind → List Symbol → List (List ℕ) → List ℕ → List ℕ → Type 0
AreTied true kind symbols names literals tied = (length literals ≡ length names) × (tied ≡ literals)
AreTied false kind symbols names literals tied =
    (places : List ℕ) × AreNamed kind (length literals) symbols names places × (tied ≡ literals_at literals places)

-- The circuit with its inputs and outputs in the order of the automaton's propositions.
pub record IsTied (by_place : Bool) (a : Automaton) (circuit : Circuit) (symbols : List Symbol) (tied : Circuit) : Type 0 where
  pub inputs : AreTied by_place input symbols (input_names a) circuit.inputs tied.inputs
  pub outputs : AreTied by_place output symbols (output_names a) circuit.outputs tied.outputs
  pub rest : tied ≡ record circuit { inputs = tied.inputs; outputs = tied.outputs }

-- ---- faults

-- the name is given to the place, and to no other
abbrev pub IsOnlyAt : Kind → ℕ → List Symbol → List ℕ → ℕ → Type 0
IsOnlyAt kind count symbols name place =
    IsNamed kind count symbols name place × ((other : ℕ) → IsNamed kind count symbols name other → other ≡ place)

-- the name at this position of the list has a place of its own: it is given to one place only, and no name before it is given to that
-- place
abbrev pub HasPlace : Kind → ℕ → List Symbol → List (List ℕ) → ℕ → Type 0
HasPlace kind count symbols names k =
    (place : ℕ) × IsOnlyAt kind count symbols (get_or names k []) place
    × ((j : ℕ) → j < k → ¬ IsNamed kind count symbols (get_or names j []) place)

-- the name is at this position of the list, and the names before it have places of their own
pub record IsNext (kind : Kind) (count : ℕ) (symbols : List Symbol) (names : List (List ℕ)) (k : ℕ) (name : List ℕ) : Type 0 where
  pub within : k < length names
  pub there : get_or names k [] ≡ name
  pub before : (j : ℕ) → j < k → HasPlace kind count symbols names j

-- all names have places of their own, and this is the first place that none of them has
pub record IsLeft (kind : Kind) (count : ℕ) (symbols : List Symbol) (names : List (List ℕ)) (place : ℕ) : Type 0 where
  pub all : (k : ℕ) → k < length names → HasPlace kind count symbols names k
  pub within : place < count
  pub left : (k : ℕ) → k < length names → ¬ IsNamed kind count symbols (get_or names k []) place
  pub before : (p : ℕ) → p < place → (k : ℕ) × (k < length names) × IsNamed kind count symbols (get_or names k []) p

-- this symbol is the first that gives another name
abbrev pub IsFirstUnknown : Kind → ℕ → List (List ℕ) → List Symbol → Symbol → Type 0
IsFirstUnknown kind count names [] s = ⊥
IsFirstUnknown kind count names (first ∷ symbols) s =
    (IsUnknown kind count names first × (first ≡ s)) ⊎ (¬ IsUnknown kind count names first × IsFirstUnknown kind count names symbols s)

-- the first symbol that gives another name gives this one to this place
abbrev pub HasUnknown : Kind → ℕ → List Symbol → List (List ℕ) → ℕ → List ℕ → Type 0
HasUnknown kind count symbols names place name =
    (s : Symbol) × IsFirstUnknown kind count names symbols s × (s.position ≡ place) × (s.name ≡ name)

-- Why the names aren't tied to the places of a kind. By symbols: a name has no place of its own, the first such name; or else a symbol gives
-- another name, the first such symbol; or else a place has no symbol, the first such place. By place: there are fewer places than names, or more.
abbrev pub IsSideFault : Bool → Kind → ℕ → List Symbol → List (List ℕ) → SideFault → Type 0
IsSideFault false kind count symbols names (Missing name) =
    (k : ℕ) × IsNext kind count symbols names k name.bytes.items × ((place : ℕ) → ¬ IsNamed kind count symbols name.bytes.items place)
IsSideFault false kind count symbols names (Twice name) =
    (k : ℕ) × IsNext kind count symbols names k name.bytes.items
    × ((p : ℕ) × (q : ℕ) × (p ≢ q) × IsNamed kind count symbols name.bytes.items p × IsNamed kind count symbols name.bytes.items q)
IsSideFault false kind count symbols names (Shared place one other) =
    (k : ℕ) × IsNext kind count symbols names k other.bytes.items × IsOnlyAt kind count symbols other.bytes.items place
    × ((j : ℕ) × (j < k) × (get_or names j [] ≡ one.bytes.items) × IsNamed kind count symbols one.bytes.items place)
IsSideFault false kind count symbols names (Nameless place) =
    IsLeft kind count symbols names place × AreKnown kind count symbols names
    × ((s : Symbol) → Contains symbols s → s.kind ≡ kind → s.position ≢ place)
IsSideFault false kind count symbols names (Extra place name) =
    ((k : ℕ) → k < length names → HasPlace kind count symbols names k) × HasUnknown kind count symbols names place name.bytes.items
IsSideFault true kind count symbols names (Short name) = (count < length names) × (get_or names count [] ≡ name.bytes.items)
IsSideFault true kind count symbols names (Long place) = (place ≡ length names) × (place < count)
IsSideFault _ _ _ _ _ _ = ⊥

-- names are needed, there are inputs or outputs, and none of them has a name
abbrev pub IsNameless : Bool → List ℕ → List ℕ → List Symbol → Type 0
IsNameless true inputs outputs symbols = ⊥
IsNameless false inputs outputs symbols =
    (0 < length inputs + length outputs) × ((s : Symbol) → Contains symbols s → s.kind ≡ latch)

-- inputs are matched first
abbrev pub IsTieFault : Bool → Automaton → Circuit → List Symbol → TieFault → Type 0
IsTieFault by_place a circuit symbols OutOfMemory = Unit {0}
IsTieFault by_place a circuit symbols NoSymbols = IsNameless by_place circuit.inputs circuit.outputs symbols
IsTieFault by_place a circuit symbols (Inputs fault) =
    ¬ IsNameless by_place circuit.inputs circuit.outputs symbols
    × IsSideFault by_place input (length circuit.inputs) symbols (input_names a) fault
IsTieFault by_place a circuit symbols (Outputs fault) =
    ¬ IsNameless by_place circuit.inputs circuit.outputs symbols
    × ((tied : List ℕ) × AreTied by_place input symbols (input_names a) circuit.inputs tied)
    × IsSideFault by_place output (length circuit.outputs) symbols (output_names a) fault
