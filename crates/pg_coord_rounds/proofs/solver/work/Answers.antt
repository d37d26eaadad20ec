use Rattle.pg_coord_rounds.proofs.Common.{refl, sym}
use Rattle.pg_coord_rounds.proofs.Ends.{ends_weaker, solved_from}
use Rattle.pg_coord_rounds.proofs.solver.work.Goals as goal

pub returns-clause-solved : goal.returns-clause-solved
returns-clause-solved g c =
    let in_step = c.in_ok-set_up_all.ensures in
    let ends = ends_weaker _ _ _ _ _ _ _ _ _ _ c.in_ok-made.made
    (λ honest. (c.set_up_all.ensures.honest honest, in_step.in_step honest c.in_ok-coordinator.coordinator.map)) in_step.told
    c.set_up_all.auto.links c.in_ok-made.ensures.ends in
    rw (sym c.prepare_all.ensures, sym c.in_ok-coordinator.ensures.map)
    (solved_from _ _ _ _ _ _ c.in_ok-made.made c.in-Some.rounds _ c.in-Some.is refl ends)
