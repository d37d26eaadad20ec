use Rattle.pg_solver.proofs.Common.{◌≡◌, ◌∙◌, ap, length, arith, subst, sym, ℕ, length-replicate, AreWithin, game_line}
use Rattle.pg_solver.proofs.solver.lift_game.Goals as goal

pub lifted-requires-clause-within : goal.lifted-requires-clause-within
lifted-requires-clause-within c =
    let zeros = ap length c.in_ok-zero.ensures.zeros ∙ length-replicate _ _ in
    let n : length c.in_ok-zero.zero.measures ≡ length c.args.game.now = omega (arith, zeros, c.len.ensures.value) in
    subst (λ (k : ℕ). AreWithin k (game_line c.args.game.now)) (sym n) (c.game_lines.ensures c.args.game.now c.len.ensures.game).0
