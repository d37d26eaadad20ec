-- The answers about games and solutions in arrays.
use Rattle.std.specs.Prelude.{◌≡◌, ℕ, ◌<◌, ◌≤◌, List, length, drop, ◌++◌}
use Rattle.pg_check.specs.Soundness.{IsSound, NoneLeaves}
use Rattle.pg_check.specs.Verdicts.{IsLeastLeaving, IsSimpleBadCycle}
use Rattle.parsolve_c_csr.specs.Games.{GameArrays, SpellsGame, game_of}
use Rattle.parsolve_c_csr.specs.Solutions.{Solves, SpellsSolution, solution_of}
use Rattle.parsolve_c.specs.declared.checking.ParsolveFound.{ParsolveFound}

-- the arrays spell a game, and these are a sound solution of it
pub record IsSolved (a : GameArrays) (winners strategy : List ℕ) : Type 0 where
  pub spelled : SpellsGame a
  pub solved : Solves (game_of a) winners strategy

-- the arrays spell a game and a solution of it, which is sound
pub record IsFoundSound (a : GameArrays) (winners strategy : List ℕ) : Type 0 where
  pub spelled : SpellsSolution a winners strategy
  pub sound : IsSound (game_of a) (solution_of winners strategy)

-- the arrays spell a game and a solution of it, which isn't sound
pub record IsFoundUnsound (a : GameArrays) (winners strategy : List ℕ) : Type 0 where
  pub spelled : SpellsSolution a winners strategy
  pub unsound : ¬ IsSound (game_of a) (solution_of winners strategy)

-- the least edge that counts and leads to a vertex with another winner is returned
pub record Leaves (a : GameArrays) (winners strategy : List ℕ) (found : ParsolveFound) : Type 0 where
  pub against : IsFoundUnsound a winners strategy
  pub least : IsLeastLeaving (game_of a) (solution_of winners strategy) found.vertex found.to

-- the numbers are at the start of the output, and the rest is as it was; if there is no room for them, all is as it was
pub record IsHanded (numbers old new : List ℕ) : Type 0 where
  pub front : length numbers ≤ length old → new ≡ numbers ++ drop (length numbers) old
  pub kept : length old < length numbers → new ≡ old

-- there is no such edge, and a bad cycle is returned with its number of vertices: at most as many as the game has
pub record HasCycle (a : GameArrays) (winners strategy : List ℕ) (found : ParsolveFound) (old new : List ℕ) : Type 0 where
  pub against : IsFoundUnsound a winners strategy
  pub none_leaves : NoneLeaves (game_of a) (solution_of winners strategy)
  pub cycle : List ℕ
  pub bad : IsSimpleBadCycle (game_of a) (solution_of winners strategy) cycle
  pub few : length cycle ≤ length a.priorities
  pub told : found.length ≡ length cycle
  pub handed : IsHanded cycle old new
