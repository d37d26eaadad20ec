-- The product of an automaton and a tableau, and what shows that no word of the product satisfies the tableau's formula.
use Rattle.std.specs.Prelude.{◌≡◌, ◌≢◌, ℕ, ◌%◌, ◌<◌, ◌≤◌, ◌⊎◌, List, [], ◌∷◌, Option, Some, None}
use Rattle.pg_ltl.specs.NormalForms.{NormalForm}
use Rattle.pg_ltl.specs.Tableaux.{Choice, Each, IsAmong, choices_of}
use Rattle.pg_means_look.specs.Automata.{Automaton}

pub record Node : Type 0 where
  pub state : ℕ
  pub asks : List NormalForm

-- the nodes of a product; for each priority a rank of each node, and for each rank possibly an Until
pub record Certificate : Type 0 where
  pub count : ℕ
  pub node : ℕ → Node
  pub rank : ℕ → ℕ → ℕ
  pub witness : ℕ → ℕ → Option NormalForm

-- an edge inside a rank doesn't have the priority, or it puts off the Until
abbrev pub Stays : Option NormalForm → ℕ → ℕ → List NormalForm → Type 0
Stays None p priority puts = priority ≢ p
Stays (Some u) p priority puts = IsAmong puts u

-- an edge of at most this priority goes to a lower rank, or stays in its rank
abbrev pub IsFine : Certificate → ℕ → ℕ → List NormalForm → ℕ → ℕ → Type 0
IsFine cert p priority puts v w =
    priority ≤ p → (cert.rank p w < cert.rank p v)
    ⊎ ((cert.rank p w ≡ cert.rank p v) × Stays (cert.witness p (cert.rank p v)) p priority puts)

-- some node stands for what the choice asks for, and the edge to it is fine
pub record Goes (a : Automaton) (cert : Certificate) (parity v l : ℕ) (c : Choice) : Type 0 where
  pub to : ℕ
  pub below : to < cert.count
  pub state : (cert.node to).state ≡ a.target (cert.node v).state l
  pub fewer : Each (IsAmong c.asks) (cert.node to).asks
  pub fine : (p : ℕ) → p % 2 ≡ parity → IsFine cert p (a.priority (cert.node v).state l) c.puts v to

-- some node stands for the start, and at each letter each choice leads from each node to some node
pub record IsEmptyBy (a : Automaton) (f : NormalForm) (parity : ℕ) (cert : Certificate) : Type 0 where
  pub start : ℕ
  pub below : start < cert.count
  pub state : (cert.node start).state ≡ a.start
  pub fewer : Each (IsAmong (f ∷ [])) (cert.node start).asks
  pub goes : (v l : ℕ) → v < cert.count → l < a.letters → Each (Goes a cert parity v l) (choices_of (a.on l) (cert.node v).asks)
