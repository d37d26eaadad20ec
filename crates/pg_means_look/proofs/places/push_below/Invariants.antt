use Rattle.std.proofs.Common.{◌-◌, ◌⊎◌, length}
use Rattle.std.specs.Prelude.{All, Contains}
use Rattle.pg_means_look.proofs.places.push_below.Given as goal

abbrev pub invariant-loop-j : goal.invariant-loop-j
invariant-loop-j l = All (λ x. Contains l.fn.out.items x ⊎ Contains l.places x) l.out.items

abbrev pub decreases-loop-j : goal.decreases-loop-j
decreases-loop-j l = length l.places - l.j
