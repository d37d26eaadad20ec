-- Endless plays: a vertex for every step number, and the priority that decides who loses.
-- `met t` is the priority that is met at step t.
use Rattle.std.specs.Prelude.{◌≢◌, ℕ, zero, suc, ◌+◌, ◌≤◌, List, [], ◌∷◌}
use Rattle.pg_arena.specs.declared.player.Player.{Player}
use Rattle.pg_arena.specs.Games.{HasParityOf, opponent}

-- a vertex for every step number, each reached from the one before by a step
abbrev pub IsPlay : (ℕ → ℕ → Type 0) → (ℕ → ℕ) → Type 0
IsPlay Step play = (t : ℕ) → Step (play t) (play (t + 1))

abbrev pub IsAbsentFrom : (ℕ → ℕ) → ℕ → ℕ → Type 0
IsAbsentFrom met p t = (s : ℕ) → t ≤ s → met s ≢ p

-- there is no step from which on p isn't met
abbrev pub Recurs : (ℕ → ℕ) → ℕ → Type 0
Recurs met p = ¬ ((t : ℕ) × IsAbsentFrom met p t)

abbrev pub IsBoundFrom : (ℕ → ℕ) → ℕ → ℕ → Type 0
IsBoundFrom met p t = (s : ℕ) → t ≤ s → met s ≤ p

-- p recurs, and from some step on nothing greater is met
pub record IsGreatestRecurring (met : ℕ → ℕ) (p : ℕ) : Type 0 where
  pub recurs : Recurs met p
  pub bounds : (t : ℕ) × IsBoundFrom met p t

-- the greatest recurring priority has the other player's parity
abbrev pub Loses : Player → (ℕ → ℕ) → Type 0
Loses player met = (p : ℕ) × IsGreatestRecurring met p × HasParityOf (opponent player) p

abbrev pub WinsPlay : Player → (ℕ → ℕ) → Type 0
WinsPlay player met = ¬ Loses player met

-- the vertices at the `count` steps from `from` on
abbrev pub stretch : (ℕ → ℕ) → ℕ → ℕ → List ℕ
stretch play from zero = []
stretch play from (suc count) = play from ∷ stretch play (from + 1) count
