use Rattle.parsolve_c_csr.specs.Games.{arrays_of}
use Rattle.parsolve_c.proofs.Told.{sound_told, leaves_told, has_cycle}
use Rattle.parsolve_c.proofs.checking.parsolve_check.Goals as goal

pub returns-in-Ok-clause-sound : goal.returns-in-Ok-clause-sound
returns-in-Ok-clause-sound c =
    sound_told (arrays_of c.args.game.now) c.args.winners.now c.args.strategy.now c.in-Ok.verdict c.tell.result c.args.found.now
    c.tell.new.found
    c.args.cycle.now c.tell.new.cycle c.in-Ok.ensures.spelled c.in-Ok.ensures.wins c.tell.ensures

pub returns-in-Ok-clause-leaves : goal.returns-in-Ok-clause-leaves
returns-in-Ok-clause-leaves c =
    leaves_told (arrays_of c.args.game.now) c.args.winners.now c.args.strategy.now c.in-Ok.verdict c.tell.result c.args.found.now
    c.tell.new.found
    c.args.cycle.now c.tell.new.cycle c.in-Ok.ensures.spelled c.in-Ok.ensures.wins c.in-Ok.ensures.refutes c.tell.ensures

pub returns-in-Ok-clause-cycle : goal.returns-in-Ok-clause-cycle
returns-in-Ok-clause-cycle c =
    has_cycle (arrays_of c.args.game.now) c.args.winners.now c.args.strategy.now c.in-Ok.verdict c.tell.result c.args.found.now
    c.tell.new.found
    c.args.cycle.now c.tell.new.cycle c.in-Ok.ensures.spelled c.in-Ok.ensures.wins c.in-Ok.ensures.refutes c.in-Ok.ensures.cycle
    c.tell.ensures
