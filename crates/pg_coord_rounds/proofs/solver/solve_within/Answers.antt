use Rattle.pg_coord_rounds.proofs.Common.{◌∙◌, length, All, TellReplies}
use Rattle.pg_coord_rounds.proofs.Ends.{some_weaker, solved_rounds, solved_least, solved_told}
use Rattle.pg_coord_rounds.proofs.solver.solve_within.Goals as goal

pub returns-clause-rounds : goal.returns-clause-rounds
returns-clause-rounds g c =
    let task = c.in_ok-task.ensures in
    let solved = rw (task.game, task.cut, task.bounds ∙ c.bounds.ensures) at c.in_ok-work.ensures.solved in
    some_weaker c.in_ok-work.field-0 _ _ (solved_rounds c.args.game.now _ _ _ c.in_ok-zero.zero c.in_ok-zero.ensures.zeros) solved

pub returns-clause-least : goal.returns-clause-least
returns-clause-least g c =
    let task = c.in_ok-task.ensures in
    let solved = rw (task.game, task.cut, task.bounds ∙ c.bounds.ensures) at c.in_ok-work.ensures.solved in
    some_weaker c.in_ok-work.field-0 _ _
    (solved_least c.args.game.now (All g.L.Link.is_honest c.args.links.now) _ _ c.in_ok-zero.zero c.in_ok-zero.ensures.zeros) solved

pub returns-clause-told : goal.returns-clause-told
returns-clause-told g c =
    let task = c.in_ok-task.ensures in
    let solved = rw (task.game, task.cut, task.bounds ∙ c.bounds.ensures) at c.in_ok-work.ensures.solved in
    some_weaker c.in_ok-work.field-0 _ _ (λ s e replies tell.
    solved_told c.args.game.now _ (TellReplies g.L.Link.told c.in_ok-zero.zero.bounds c.args.cut.now c.args.links.now) (length c.args.links.now)
    c.in_ok-zero.zero c.in_ok-zero.ensures.zeros s e replies (rw e.found.bounds at tell)) solved
