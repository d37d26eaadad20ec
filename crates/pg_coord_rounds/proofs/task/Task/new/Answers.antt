use Rattle.pg_coord_rounds.proofs.Common.{◌∙◌, arith, refl, IsBoundsOf, setup_is_well}
use Rattle.pg_coord_rounds.proofs.task.Task.new.Goals as goal

pub invariant_of-result : goal.invariant_of-result
invariant_of-result c =
    let game = c.len-vertices.ensures in
    let is : IsBoundsOf c.args.game.now c.in_ok-bounds.bounds = rw (c.in_ok-bounds.ensures ∙ c.pairs.ensures.value) c.requires.bounds in
    record {
      game = game.game;
      lines = (c.game_lines.ensures c.args.game.now game.game).0;
      cut = c.requires.cut;
      bounds = is;
      well = setup_is_well c.args.game.now c.in_ok-bounds.bounds 2 _ c.bounds_are_few.ensures game.game game.limits game.priorities is
          (omega arith, omega arith) refl;
    }
