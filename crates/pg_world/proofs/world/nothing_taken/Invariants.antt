use Rattle.pg_world.proofs.Common.{◌≡◌, [], replicate, map}
use Rattle.pg_world.proofs.world.nothing_taken.Given as goal

abbrev pub invariant-loop : goal.invariant-loop
invariant-loop l = map (λ x. x.items) l.taken.items ≡ replicate l.counter []
