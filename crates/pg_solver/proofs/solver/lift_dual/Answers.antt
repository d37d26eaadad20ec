use Rattle.pg_solver.proofs.Common.{◌≡◌, ◌∙◌, ap, length, arith, subst, sym, ℕ, List, length-replicate, GameVertex, dual, length_dual}
use Rattle.pg_solver.proofs.Common.{game_dual, AreWithin, game_line}
use Rattle.pg_solver.proofs.solver.lift_dual.Goals as goal

pub lifted-requires-clause-within : goal.lifted-requires-clause-within
lifted-requires-clause-within c =
    let game = c.args.game.now in
    let zeros = ap length c.in_ok-zero.ensures.zeros ∙ length-replicate _ _ in
    let n : length c.in_ok-zero.zero.measures ≡ length (dual game) = omega (arith, zeros, c.len.ensures.value, length_dual game) in
    let within = subst (λ (k : ℕ). AreWithin k (game_line (dual game))) (sym n)
    (c.game_lines.ensures (dual game) (game_dual game c.len.ensures.game)).0 in
    subst (λ (g : List GameVertex). AreWithin (length c.in_ok-zero.zero.measures) (game_line (dual g))) (sym c.of.ensures) within
