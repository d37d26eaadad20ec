use Rattle.std.proofs.Common.{length, sym, ◌∙◌}
use Rattle.parsolve_c_csr.specs.Games.{arrays_of}
use Rattle.parsolve_c_csr.proofs.Solved.{small_choices, as_long}
use Rattle.parsolve_c_csr.proofs.solving.solve.Goals as goal

pub write-requires-clause-winners : goal.write-requires-clause-winners
write-requires-clause-winners c =
    as_long (arrays_of c.args.arrays.now) c.in_ok-game.game (length c.args.winners.now) c.in_ok-game.ensures c.if-winners-count.false
    ∙ sym c.in-Ok.ensures.choices.whole

pub write-requires-clause-strategy : goal.write-requires-clause-strategy
write-requires-clause-strategy c =
    as_long (arrays_of c.args.arrays.now) c.in_ok-game.game (length c.args.strategy.now) c.in_ok-game.ensures c.if-strategy-count.false
    ∙ sym c.in-Ok.ensures.choices.whole

pub write-requires-clause-choices : goal.write-requires-clause-choices
write-requires-clause-choices c =
    small_choices c.in_ok-game.game c.in-Ok.solution c.len-vertices.ensures.game c.len-vertices.ensures.limits c.in-Ok.ensures.choices
    c.in-Ok.ensures.elsewhere
