use Rattle.pg_arena.proofs.Common.{◌≡◌, [], drop, rows_in, first_unknown_in}
use Rattle.pg_arena.proofs.link.first_unknown.Given as goal

abbrev pub invariant-loop-v : goal.invariant-loop-v
invariant-loop-v l = first_unknown_in l.identifiers l.targets (drop l.v (rows_in l.identifiers [] l.entries)) ≡ first_unknown_in l.identifiers l.targets
    (rows_in l.identifiers [] l.entries)
