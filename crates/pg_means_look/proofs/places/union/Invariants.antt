use Rattle.std.proofs.Common.{◌⊎◌}
use Rattle.std.specs.Prelude.{All, Contains}
use Rattle.pg_means_look.proofs.places.union.Given as goal

abbrev pub invariant-loop-place : goal.invariant-loop-place
invariant-loop-place l = All (λ x. Contains l.a x ⊎ Contains l.b x) l.out.items
