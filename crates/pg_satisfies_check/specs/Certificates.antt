-- The steps of a circuit, and what shows that none of its endless runs satisfies a formula.
use Rattle.std.specs.Prelude.{◌≡◌, ℕ, ◌<◌, ◌⊎◌, false, List, [], ◌∷◌, Option, Some, None, length, slice_index_or}
use Rattle.pg_aiger.specs.declared.gate.Latch.{Latch}
use Rattle.pg_aiger.specs.Circuits.{Circuit, latch_at, no_latch}
use Rattle.pg_aiger.specs.Runs.{Valuation, value, Satisfies}
use Rattle.pg_ltl.specs.NormalForms.{NormalForm}
use Rattle.pg_ltl.specs.Tableaux.{Choice, Each, IsAmong, choices_of}
use Rattle.pg_satisfies_check.specs.declared.system.Bit.{Bit}
use Rattle.pg_satisfies_check.specs.Satisfaction.{holds_in}

-- one step of the circuit, with any latches and inputs
pub record IsStep (circuit : Circuit) (v : Valuation) : Type 0 where
  pub constant : v 0 ≡ false
  pub gates : Satisfies v circuit.gates

-- the latches are 0
abbrev pub IsFirst : Circuit → Valuation → Type 0
IsFirst circuit v = (j : ℕ) → j < length circuit.latches → value v (latch_at circuit j).literal ≡ false

-- the latches have the values that their next literals had
abbrev pub Follows : Circuit → Valuation → Valuation → Type 0
Follows circuit u v =
    (j : ℕ) → j < length circuit.latches → value v (latch_at circuit j).literal ≡ value u (latch_at circuit j).next

-- the latches have these values; nothing is said of a latch past the last one
abbrev pub AreBits : List Latch → Valuation → List Bit → Type 0
AreBits latches u cube = Each (λ (b : Bit). b.latch < length latches → value u (slice_index_or latches b.latch no_latch).literal ≡ b.value) cube

-- a node stands for the steps in which these latches have these values, and asks for these formulas
pub record Node : Type 0 where
  pub cube : List Bit
  pub asks : List NormalForm

-- nodes, a rank of each node, and for each rank possibly an Until
pub record EmptinessCertificate : Type 0 where
  pub count : ℕ
  pub node : ℕ → Node
  pub rank : ℕ → ℕ
  pub witness : ℕ → Option NormalForm

-- an edge inside a rank puts off the rank's Until
abbrev pub Stays : Option NormalForm → List NormalForm → Type 0
Stays None puts = ⊥
Stays (Some u) puts = IsAmong puts u

-- an edge goes to a lower rank, or stays in its rank
abbrev pub IsFine : EmptinessCertificate → ℕ → List NormalForm → ℕ → Type 0
IsFine cert v puts w = (cert.rank w < cert.rank v) ⊎ ((cert.rank w ≡ cert.rank v) × Stays (cert.witness (cert.rank v)) puts)

-- some node stands for each step that follows and asks for no more than the choice, and the edge to it is fine
pub record Goes (circuit : Circuit) (cert : EmptinessCertificate) (v : ℕ) (u : Valuation) (c : Choice) : Type 0 where
  pub to : ℕ
  pub below : to < cert.count
  pub stands : (w : Valuation) → IsStep circuit w → Follows circuit u w → AreBits circuit.latches w (cert.node to).cube
  pub fewer : Each (IsAmong c.asks) (cert.node to).asks
  pub fine : IsFine cert v c.puts to

-- Some node stands for each first step and asks for no more than the formula, and in each step each choice leads from each node that
-- stands for it to some node, or at least it can't be that it doesn't.
pub record IsEmptyBy (circuit : Circuit) (literals : List ℕ) (f : NormalForm) (cert : EmptinessCertificate) : Type 0 where
  pub start : ℕ
  pub below : start < cert.count
  pub stands : (u : Valuation) → IsStep circuit u → IsFirst circuit u → AreBits circuit.latches u (cert.node start).cube
  pub fewer : Each (IsAmong (f ∷ [])) (cert.node start).asks
  pub goes : (v : ℕ) (u : Valuation) → v < cert.count → IsStep circuit u → AreBits circuit.latches u (cert.node v).cube
      → ¬ ¬ Each (Goes circuit cert v u) (choices_of (holds_in literals u) (cert.node v).asks)
