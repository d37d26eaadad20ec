-- The game of one vertex of Even with priority 0 that leads to itself.
use Rattle.std.specs.Prelude.{◌≡◌, ℕ, ◌<◌, List, [], ◌∷◌, None, length, refl}
use Rattle.std.proofs.Common.{zero, suc, lit<, arith, subst, sym}
use Rattle.pg_arena.specs.declared.player.Player.TheVariants.{Even}
use Rattle.pg_arena.specs.Games.{GameVertex, IsGame, IsEdge, successors}
use Rattle.std.specs.List.Sorted.{IsStrictlyIncreasing}
use Rattle.pg_check.specs.Plays.{IsPlay}

abbrev pub lonely_game : List GameVertex
lonely_game = record { identifier = 0; priority = 0; owner = Even; successors = 0 ∷ []; name = None } ∷ []

pub lonely_goes_on : IsPlay (IsEdge lonely_game) (λ _. 0)
lonely_goes_on t = (0, lit< tt, refl)

pub lonely_is_game : IsGame lonely_game
lonely_is_game = record {
  nonempty = lit< tt;
  rising = λ k lt. absurd (omega arith);
  goes_on = goes_on;
  successors_rise = rises;
  in_range = in_range;
}
  where
    goes_on : (v : ℕ) → v < 1 → 0 < length (successors lonely_game v)
    goes_on zero lt = lit< tt
    goes_on (suc v) lt = absurd (omega arith)

    rises : (v : ℕ) → IsStrictlyIncreasing (successors lonely_game v)
    rises zero k lt = absurd (omega arith)
    rises (suc v) k lt = absurd (omega arith)

    in_range : (v w : ℕ) → IsEdge lonely_game v w → w < 1
    in_range zero w (zero, lt, e) = subst (λ x. x < 1) e (lit< tt)
    in_range zero w (suc k, lt, e) = absurd (omega arith)
    in_range (suc v) w (k, lt, e) = absurd (omega arith)
