use Rattle.pg_satisfies_search.proofs.pieces.+join.Given as goal

abbrev pub decreases-join : goal.decreases-join
decreases-join l = l.inputs
