use Rattle.std.proofs.Common.{◌<◌, ◌≤◌, length, arith}
use Rattle.pg_check.proofs.Searches.{search_ends, explored_begins, no_cycle}
use Rattle.pg_check.proofs.cycle.explore.Goals as goal

pub loop-at-init : goal.loop-at-init
loop-at-init c =
    let search = c.in_ok-search.search in
    explored_begins c.args.game.now c.args.solution.now c.args.v c.len.result search.reached.items search.before.items search.is_reached.items
    c.requires.within c.len.ensures.value c.in_ok-search.ensures.reached c.in_ok-search.ensures.before c.in_ok-search.ensures.flags

pub visit-requires-clause-at : goal.visit-requires-clause-at
visit-requires-clause-at c = omega (arith, c.loop-at-test.true, c.len-in-loop-at.ensures)

pub loop-at-smaller : goal.loop-at-smaller
loop-at-smaller c =
    let i = c.loop-at.invariant in
    let few = search_ends c.args.game.now c.args.solution.now c.args.v c.loop-at.search.reached.items c.loop-at.search.before.items
    c.loop-at.search.is_reached.items i.searched in
    let test : c.loop-at.at < length c.loop-at.search.reached.items = omega (arith, c.loop-at-test.true, c.len-in-loop-at.ensures) in
    omega (arith, few, test)

pub returns-clause-none : goal.returns-clause-none
returns-clause-none c =
    let i = c.loop-at.invariant in
    let done : length c.loop-at.search.reached.items ≤ c.loop-at.at = omega (arith, c.loop-at-test.false, c.len-in-loop-at.ensures) in
    no_cycle c.args.game.now c.args.solution.now c.args.v c.loop-at.search.reached.items c.loop-at.search.before.items
    c.loop-at.search.is_reached.items c.loop-at.at i.searched done i.taken
