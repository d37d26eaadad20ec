use Rattle.pg_solver.proofs.Common.{List, length, subst, sym, GameVertex, dual, AreWithin, game_line, AreOpposite}
use Rattle.pg_solver.proofs.Knowing.{game_opposite, opposite_back}
use Rattle.pg_solver.proofs.proposed.are_least.Goals as goal

pub is_least_beside-requires-clause-opposite : goal.is_least_beside-requires-clause-opposite
is_least_beside-requires-clause-opposite c =
    let game = c.args.game.now in
    let n = length c.args.of_game.now.measures in
    subst (λ (g : List GameVertex). AreOpposite n (game_line game) (game_line (dual g))) (sym c.of-dual.ensures)
    (game_opposite game n c.len-vertices.ensures.game c.game_lines.ensures c.game_lines_are_dual.ensures c.requires.size)

pub is_least_beside-requires-2-clause-opposite : goal.is_least_beside-requires-2-clause-opposite
is_least_beside-requires-2-clause-opposite c =
    let game = c.args.game.now in
    let n = length c.args.of_dual.now.measures in
    subst (λ (g : List GameVertex). AreOpposite n (game_line (dual g)) (game_line game)) (sym c.of-dual.ensures)
    (opposite_back n (game_line game) (game_line (dual game))
    (game_opposite game n c.len-vertices.ensures.game c.game_lines.ensures c.game_lines_are_dual.ensures c.requires.dual_size))

pub is_closed-requires : goal.is_closed-requires
is_closed-requires c =
    let game = c.args.game.now in
    let n = length c.args.of_game.now.measures in
    let o = game_opposite game n c.len-vertices.ensures.game c.game_lines.ensures c.game_lines_are_dual.ensures c.requires.size in
    o.within

pub is_closed-requires-else-not-is_closed : goal.is_closed-requires-else-not-is_closed
is_closed-requires-else-not-is_closed c =
    let game = c.args.game.now in
    let n = length c.args.of_dual.now.measures in
    let o = game_opposite game n c.len-vertices.ensures.game c.game_lines.ensures c.game_lines_are_dual.ensures c.requires.dual_size in
    subst (λ (g : List GameVertex). AreWithin n (game_line (dual g))) (sym c.of-dual.ensures) o.other_within
