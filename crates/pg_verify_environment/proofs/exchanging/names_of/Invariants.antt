use Rattle.std.proofs.Common.{◌≡◌, map, take}
use Rattle.pg_verify_environment.proofs.exchanging.names_of.Given as goal

abbrev pub invariant-loop-a : goal.invariant-loop-a
invariant-loop-a l = map (λ v. v.items) l.names.items ≡ take l.a l.automaton.propositions
