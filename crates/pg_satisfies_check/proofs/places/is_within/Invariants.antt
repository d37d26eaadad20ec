use Rattle.std.proofs.Common.{take}
use Rattle.std.specs.Prelude.{All, Contains}
use Rattle.pg_satisfies_check.proofs.places.is_within.Given as goal

abbrev pub invariant-loop-place : goal.invariant-loop-place
invariant-loop-place l = All (Contains l.many) (take l.place-index l.few)
