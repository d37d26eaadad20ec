use Rattle.std.proofs.Common.{◌≡◌}
use Rattle.pg_coord_rounds.proofs.round.prepare_all.Given as goal

abbrev pub invariant-loop-i : goal.invariant-loop-i
invariant-loop-i g l = l.links ≡ l.fn.links
