use Rattle.pg_check.proofs.Common.{rules, ℕ, List, Option, Some, Result, Ok, IfOk, Vec, Global, AllocError, GameVertex, Answer, IsLost}
use Rattle.pg_check.proofs.Common.{IsSimpleCycle, IsSimpleBadCycle}
use Rattle.std.proofs.Common.{IfSome}
use Rattle.pg_check.proofs.Checking.{bad_cycle_of}
use Rattle.pg_check.proofs.checker.bad_cycle_through.Goals as goal

found_bad : (game : List GameVertex) (solution : List Answer) (v : ℕ) (r : Result (Option (Vec ℕ Global)) AllocError) → IsLost game solution v
    → IfOk r (λ found. IfSome found (λ cycle. IsSimpleCycle game solution v cycle.items))
    → IfOk r (λ found. IfSome found (λ cycle. IsSimpleBadCycle game solution cycle.items))
found_bad game solution v (Ok (Some cycle)) lost h = bad_cycle_of game solution v cycle.items lost h
found_bad game solution v _ lost h = tt

pub returns-clause-some : goal.returns-clause-some
returns-clause-some c =
    let lost : IsLost c.args.game.now c.args.solution.now c.args.v = search rules in
    found_bad c.args.game.now c.args.solution.now c.args.v c.cycle_through.result lost c.cycle_through.ensures.some
