use Rattle.pg_arena.proofs.Common.{◌≡◌, take, drop, map, slice_index}
use Rattle.pg_arena.proofs.link.unlink.Given as goal

abbrev pub invariant-loop-target : goal.invariant-loop-target
invariant-loop-target l = record {
  done : take l.target-index l.targets ≡ map (slice_index l.identifiers) (take l.target-index l.initial.targets);
  left : drop l.target-index l.targets ≡ drop l.target-index l.initial.targets;
}
