use Rattle.std.proofs.Common.{List, length, subst}
use Rattle.pg_arena.specs.Games.{GameVertex}
use Rattle.pg_check.specs.Verdicts.{Refutes}
use Rattle.parsolve_c_csr.specs.Games.{arrays_of}
use Rattle.parsolve_c_csr.proofs.Cycles.{keeps_cycle}
use Rattle.parsolve_c_csr.proofs.Solved.{as_long}
use Rattle.parsolve_c_csr.proofs.checking.check.Goals as goal

pub read-requires-clause-winners : goal.read-requires-clause-winners
read-requires-clause-winners c =
    as_long (arrays_of c.args.arrays.now) c.in_ok-game.game (length c.args.winners.now) c.in_ok-game.ensures
    c.in_ok-examine_solution.ensures.lengths.as_many_winners

pub read-requires-clause-strategy : goal.read-requires-clause-strategy
read-requires-clause-strategy c =
    as_long (arrays_of c.args.arrays.now) c.in_ok-game.game (length c.args.strategy.now) c.in_ok-game.ensures
    c.in_ok-examine_solution.ensures.lengths.as_many_choices

pub returns-clause-cycle : goal.returns-clause-cycle
returns-clause-cycle c =
    let solution = c.in_ok-solution.solution in
    let verdict = c.in-Ok.verdict in
    keeps_cycle (arrays_of c.args.arrays.now) solution verdict c.in_ok-examine.ensures.ok
    (subst (λ (game : List GameVertex). Refutes game solution verdict) c.in_ok-game.ensures c.in-Ok.ensures.refutes)
