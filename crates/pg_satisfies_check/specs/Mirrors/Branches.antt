-- Branches, and what is left of them.
use Rattle.std.specs.Prelude.{◌≡◌, ℕ, Bool, List, [], ◌∷◌, ◌++◌, Option}
use Rattle.pg_ltl.specs.NormalForms.{NormalForm}
use Rattle.pg_satisfies_check.specs.declared.branch.TableauBranch.{TableauBranch}
use Rattle.pg_satisfies_check.specs.declared.branch.BranchPieces.{BranchPieces}
use Rattle.pg_satisfies_check.specs.declared.branch.BranchPieces.TheVariants.{Stuck, Done, One, Two}
use Rattle.pg_satisfies_check.specs.declared.certificate.EmptinessCertificate as proposed
use Rattle.pg_satisfies_check.specs.declared.steps.CubeSteps.{CubeSteps}
use Rattle.pg_satisfies_check.specs.Mirrors.Views.{Covers}

abbrev pub IsCovered : CubeSteps → proposed.EmptinessCertificate → List NormalForm → ℕ → TableauBranch → Type 0
IsCovered s c forms v b = Covers s c forms v b.row.items b.todo.items b.asks.items b.puts.items

-- what is left of a branch covers it
abbrev pub Splits : CubeSteps → proposed.EmptinessCertificate → List NormalForm → ℕ → List (Option Bool) → List ℕ → List ℕ → List ℕ → BranchPieces → Type 0
Splits s c forms v row todo asks puts Stuck = Unit {0}
Splits s c forms v row todo asks puts Done = Covers s c forms v row todo asks puts
Splits s c forms v row todo asks puts (One b) = IsCovered s c forms v b → Covers s c forms v row todo asks puts
Splits s c forms v row todo asks puts (Two b d) =
    IsCovered s c forms v b → IsCovered s c forms v d → Covers s c forms v row todo asks puts

pub record IsBranch (b : TableauBranch) (known : List (Option Bool)) (left now off : List ℕ) : Type 0 where
  pub row : b.row.items ≡ known
  pub todo : b.todo.items ≡ left
  pub asks : b.asks.items ≡ now
  pub puts : b.puts.items ≡ off

-- two branches, one with these formulas to do, and one with those
abbrev pub AreTwo : List (Option Bool) → List ℕ → List ℕ → List ℕ → List ℕ → List ℕ → List ℕ → BranchPieces → Type 0
AreTwo row first asks puts second more off Stuck = ⊥
AreTwo row first asks puts second more off Done = ⊥
AreTwo row first asks puts second more off (One b) = ⊥
AreTwo row first asks puts second more off (Two b d) = IsBranch b row first asks puts × IsBranch d row second more off

-- the stack has what is left of a branch on top
abbrev pub HasPut : List TableauBranch → BranchPieces → List TableauBranch → Type 0
HasPut old Stuck new = ⊥
HasPut old Done new = new ≡ old
HasPut old (One b) new = new ≡ old ++ b ∷ []
HasPut old (Two b d) new = new ≡ (old ++ b ∷ []) ++ d ∷ []
