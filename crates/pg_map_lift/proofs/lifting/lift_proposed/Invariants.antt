use Rattle.std.proofs.Common.{◌≡◌}
use Rattle.pg_map_lift.proofs.lifting.lift_proposed.Given as goal

abbrev pub invariant-proposals : goal.invariant-proposals
invariant-proposals g l = l.map ≡ l.initial.map
