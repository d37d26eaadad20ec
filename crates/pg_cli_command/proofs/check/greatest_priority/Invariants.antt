use Rattle.pg_cli_command.proofs.Common.{◌≡◌, map, take, priority, greatest}
use Rattle.pg_cli_command.proofs.check.greatest_priority.Given as goal

abbrev pub invariant-loop-v : goal.invariant-loop-v
invariant-loop-v l = l.most ≡ greatest (map (priority l.game) (take l.v-index l.vertices))
