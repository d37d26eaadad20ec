-- Deterministic parity automata in which every letter leads on from every state, and the endless words that they accept.
use Rattle.std.specs.Prelude.{◌≡◌, ◌≢◌, ℕ, zero, suc, ◌%◌, ◌<◌, ◌≤◌, Bool}

-- letters are numbers, and `on l p` says whether the proposition p holds at the letter l
pub record Automaton : Type 0 where
  pub letters : ℕ
  pub on : ℕ → ℕ → Bool
  pub start : ℕ
  pub target : ℕ → ℕ → ℕ
  pub priority : ℕ → ℕ → ℕ
  -- every priority is below this
  pub bound : ℕ

abbrev pub IsBounded : Automaton → Type 0
IsBounded a = (q l : ℕ) → a.priority q l < a.bound

abbrev pub IsWord : Automaton → (ℕ → ℕ) → Type 0
IsWord a word = (t : ℕ) → word t < a.letters

abbrev pub state_at : Automaton → (ℕ → ℕ) → ℕ → ℕ
state_at a word zero = a.start
state_at a word (suc t) = a.target (state_at a word t) (word t)

abbrev pub met : Automaton → (ℕ → ℕ) → ℕ → ℕ
met a word t = a.priority (state_at a word t) (word t)

abbrev pub IsAbsentFrom : (ℕ → ℕ) → ℕ → ℕ → Type 0
IsAbsentFrom priorities p t = (s : ℕ) → t ≤ s → priorities s ≢ p

-- there is no step from which on p is never met, and from some step on nothing greater is met
pub record IsGreatestRecurring (priorities : ℕ → ℕ) (p : ℕ) : Type 0 where
  pub recurs : ¬ ((t : ℕ) × IsAbsentFrom priorities p t)
  pub bounds : (t : ℕ) × ((s : ℕ) → t ≤ s → priorities s ≤ p)

-- the greatest recurring priority isn't odd
abbrev pub IsAccepted : Automaton → (ℕ → ℕ) → Type 0
IsAccepted a word = ¬ ((p : ℕ) × IsGreatestRecurring (met a word) p × (p % 2 ≡ 1))
