use Rattle.pg_arena.proofs.Common.{◌≡◌, take, drop, AreLinked}
use Rattle.pg_arena.proofs.link.link.Given as goal

abbrev pub invariant-loop-k : goal.invariant-loop-k
invariant-loop-k l = record {
  done : AreLinked l.identifiers (take l.k l.initial.targets) (take l.k l.targets);
  left : drop l.k l.targets ≡ drop l.k l.initial.targets;
}
