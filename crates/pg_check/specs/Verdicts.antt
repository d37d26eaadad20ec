-- What a checker may answer.
use Rattle.std.specs.Prelude.{◌≡◌, ◌≢◌, ℕ, ◌<◌, ◌≤◌, ◌⊎◌, List, [], ◌∷◌, AllPairs}
use Rattle.pg_arena.specs.Games.{GameVertex}
use Rattle.pg_text.specs.declared.answer.Answer.{Answer}
use Rattle.pg_text.specs.Solutions.{winner}
use Rattle.pg_check.specs.declared.verdict.Verdict.{Verdict}
use Rattle.pg_check.specs.declared.verdict.Verdict.TheVariants.{Wins, Leaves, BadCycle}
use Rattle.pg_check.specs.Soundness.{Counts, NoneLeaves, IsBadCycle}

-- an edge that counts and joins vertices with different winners
abbrev pub IsLeaving : List GameVertex → List Answer → ℕ → ℕ → Type 0
IsLeaving game solution v w = Counts game solution v w × (winner solution w ≢ winner solution v)

-- the least of these edges, compared first by its source and then by its target
pub record IsLeastLeaving (game : List GameVertex) (solution : List Answer) (v w : ℕ) : Type 0 where
  pub leaving : IsLeaving game solution v w
  pub least : (x y : ℕ) → IsLeaving game solution x y → (v < x) ⊎ ((v ≡ x) × (w ≤ y))

-- a bad cycle that names no vertex twice
abbrev pub IsSimpleBadCycle : List GameVertex → List Answer → List ℕ → Type 0
IsSimpleBadCycle game solution [] = ⊥
IsSimpleBadCycle game solution (v ∷ rest) = AllPairs (λ x y. x ≢ y) (v ∷ rest) × IsBadCycle game solution v rest

abbrev pub IsWins : Verdict → Type 0
IsWins Wins = Unit {0}
IsWins verdict = ⊥

-- what the verdict names speaks against the solution
abbrev pub Refutes : List GameVertex → List Answer → Verdict → Type 0
Refutes game solution Wins = Unit {0}
Refutes game solution (Leaves v w) = IsLeastLeaving game solution v w
Refutes game solution (BadCycle cycle) = NoneLeaves game solution × IsSimpleBadCycle game solution cycle.items
