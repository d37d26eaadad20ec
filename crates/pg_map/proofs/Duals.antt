-- Lines of the dual.
use Rattle.pg_map.proofs.Common.{◌≡◌, ℕ, zero, suc, [], ◌∷◌, Option, refl, arith, nat_tests, Line, line_at, dual_line, AreDual}
use Rattle.pg_map.proofs.Common.{GameLinesAreDual}
use Rattle.std.specs.Option.{IsSome}

pub dual_held : (lines other : ℕ → Option Line) (v : ℕ) → AreDual lines other → IsSome (lines v) → IsSome (other v)
dual_held lines other v dual h = grind (arith, nat_tests)

pub held_dual : (lines other : ℕ → Option Line) (v : ℕ) → AreDual lines other → IsSome (other v) → IsSome (lines v)
held_dual lines other v dual h = grind (arith, nat_tests)

pub dual_at : (lines other : ℕ → Option Line) (v : ℕ) → AreDual lines other → IsSome (lines v) → line_at other v ≡ dual_line (line_at lines v)
dual_at lines other v dual h = grind (arith, nat_tests)

pub game_lines_are_dual : GameLinesAreDual
game_lines_are_dual [] v = refl
game_lines_are_dual (x ∷ game) zero = refl
game_lines_are_dual (x ∷ game) (suc v) = game_lines_are_dual game v
