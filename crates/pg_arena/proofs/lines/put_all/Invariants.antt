use Rattle.pg_arena.proofs.Common.{◌≡◌, ◌≤◌, ◌+◌, ◌-◌, ◌++◌, take, length, vec_capacity}
use Rattle.pg_arena.proofs.lines.put_all.Given as goal

abbrev pub invariant-loop-identifier : goal.invariant-loop-identifier
invariant-loop-identifier l = record {
  put : l.targets.items ≡ l.initial.targets.items ++ take l.identifier-index l.identifiers;
  room : length l.targets.items + (length l.identifiers - l.identifier-index) ≤ vec_capacity l.targets;
}
