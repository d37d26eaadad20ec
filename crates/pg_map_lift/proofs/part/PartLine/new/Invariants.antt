use Rattle.std.proofs.Common.{◌≡◌, take}
use Rattle.pg_map_lift.proofs.part.PartLine.new.Given as goal

abbrev pub invariant-loop-w : goal.invariant-loop-w
invariant-loop-w l = l.targets.items ≡ take l.w-index l.successors
