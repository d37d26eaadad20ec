-- What a search for bad cycles finds, and what it says of the solution.
use Rattle.pg_check.proofs.Common.{◌≢◌, ℕ, List, [], ◌∷◌, sym, subst, AllPairs, GameVertex, IsGame, Answer, IsSound, NoneLeaves}
use Rattle.pg_check.proofs.Common.{IsSimpleCycle, IsLost, HasNoBadCycle, IsLeastLeaving, IsSimpleBadCycle}
use Rattle.pg_check.proofs.Cycles.{bad_cycle_from, sound_from_no_cycle, safe_from_sound}

-- a cycle from a lost vertex that names no vertex twice is a bad cycle that doesn't either
pub bad_cycle_of : (game : List GameVertex) (solution : List Answer) (v : ℕ) (vertices : List ℕ) → IsLost game solution v
    → IsSimpleCycle game solution v vertices → IsSimpleBadCycle game solution vertices
bad_cycle_of game solution v vertices lost (rest, e, r, distinct) =
    subst (IsSimpleBadCycle game solution) (sym e) (
      subst (AllPairs (λ x y. x ≢ y)) e distinct,
      bad_cycle_from game solution v rest (record { closes = r.closes; greatest = r.greatest; lost = lost }),
    )

pub sound_of : (game : List GameVertex) (solution : List Answer) → IsGame game → NoneLeaves game solution
    → HasNoBadCycle game solution → IsSound game solution
sound_of game solution is_game none_leaves none =
    sound_from_no_cycle game solution is_game none_leaves
    (λ v rest r. none v r.lost rest (record { closes = r.closes; greatest = r.greatest }))

pub unsound_by_edge : (game : List GameVertex) (solution : List Answer) (v w : ℕ) → IsLeastLeaving game solution v w → ¬ IsSound game solution
unsound_by_edge game solution v w least sound =
    least.leaving.1 ((safe_from_sound game solution sound).none_leaves v w least.leaving.0)

pub unsound_by_cycle : (game : List GameVertex) (solution : List Answer) (vertices : List ℕ) → IsSimpleBadCycle game solution vertices
    → ¬ IsSound game solution
unsound_by_cycle game solution [] cycle sound = cycle
unsound_by_cycle game solution (v ∷ rest) cycle sound = (safe_from_sound game solution sound).no_bad_cycle v rest cycle.1
