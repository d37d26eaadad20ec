use Rattle.pg_satisfies_promises.specs.Mirrors.Growing.{AddsConjunction}
use Rattle.pg_satisfies_promises.proofs.conjuncts.conjunction.Given as goal

abbrev pub invariant-loop-conjunct : goal.invariant-loop-conjunct
invariant-loop-conjunct l = AddsConjunction l.fn.nodes.items l.nodes.items l.conjuncts l.whole
