use Rattle.std.proofs.Common.{◌+◌, ◌*◌}
use Rattle.pg_small.proofs.net.Net.+making.Given as goal

abbrev pub decreases-make : goal.decreases-make
decreases-make l = 2 * l.most + 1

abbrev pub decreases-make_by : goal.decreases-make_by
decreases-make_by l = 2 * l.most
