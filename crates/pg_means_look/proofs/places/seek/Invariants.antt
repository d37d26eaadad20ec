use Rattle.std.proofs.Common.{◌-◌, length}
use Rattle.pg_means_look.proofs.places.seek.Given as goal

abbrev pub decreases-loop-j : goal.decreases-loop-j
decreases-loop-j l = length l.places - l.j
