use Rattle.pg_worker.proofs.Common.{◌≡◌, map, take, told_line}
use Rattle.pg_worker.proofs.adding.new_lines.Given as goal

abbrev pub invariant-loop-line : goal.invariant-loop-line
invariant-loop-line l = l.held.items ≡ map told_line (take l.line-index l.lines)
