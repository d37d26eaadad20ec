use Rattle.pg_check.proofs.Common.{rules, NoneLeaves, HasNoBadCycle, IsLeastLeaving, IsSimpleBadCycle}
use Rattle.pg_check.proofs.Checking.{sound_of, unsound_by_edge, unsound_by_cycle}
use Rattle.pg_check.proofs.checker.check.Goals as goal

pub returns-in-Some-clause-wins : goal.returns-in-Some-clause-wins
returns-in-Some-clause-wins c =
    let least : IsLeastLeaving c.args.game.now c.args.solution.now c.in-Some.from c.in-Some.to = search rules in
    (λ h. absurd h, unsound_by_edge c.args.game.now c.args.solution.now c.in-Some.from c.in-Some.to least)

pub returns-in-Some-2-clause-wins : goal.returns-in-Some-2-clause-wins
returns-in-Some-2-clause-wins c =
    let cycle : IsSimpleBadCycle c.args.game.now c.args.solution.now c.in-Some-2.cycle.items = search rules in
    (λ h. absurd h, unsound_by_cycle c.args.game.now c.args.solution.now c.in-Some-2.cycle.items cycle)

pub returns-in-None-clause-wins : goal.returns-in-None-clause-wins
returns-in-None-clause-wins c =
    let none_leaves : NoneLeaves c.args.game.now c.args.solution.now = search rules in
    let none : HasNoBadCycle c.args.game.now c.args.solution.now = rw c.in-None.is at c.in_ok-cycle.ensures.none in
    (λ h. sound_of c.args.game.now c.args.solution.now c.in_ok-cycle.ensures.game none_leaves none, λ h. tt)
