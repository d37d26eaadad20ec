use Rattle.std.specs.Prelude.{All, Contains}
use Rattle.pg_satisfies_promises.proofs.conjuncts.related.Given as goal

abbrev pub invariant-loop-conjunct : goal.invariant-loop-conjunct
invariant-loop-conjunct l = All (Contains l.conjuncts) l.few.items
