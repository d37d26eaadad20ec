use Rattle.std.proofs.Common.{◌≡◌, length}
use Rattle.pg_cli.proofs.program.memory_links.Given as goal

abbrev pub invariant-loop : goal.invariant-loop
invariant-loop l = length l.links.items ≡ l.counter
