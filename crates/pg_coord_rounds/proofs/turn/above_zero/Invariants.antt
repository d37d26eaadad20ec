use Rattle.pg_coord_rounds.proofs.Common.{◌<◌, length, All}
use Rattle.pg_coord_rounds.proofs.turn.above_zero.Given as goal

abbrev pub invariant-loop-number : goal.invariant-loop-number
invariant-loop-number l = All (λ v. v < length l.map.measures) l.vertices.items
