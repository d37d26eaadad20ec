use Rattle.pg_world.proofs.Common.{◌≡◌, replicate, map, NO_UPDATE}
use Rattle.pg_world.proofs.replica.no_updates.Given as goal

abbrev pub invariant-loop : goal.invariant-loop
invariant-loop l = map (λ x. x.items) l.greatest.items ≡ replicate l.counter (replicate l.vertices NO_UPDATE)
