use Rattle.pg_satisfies_search.proofs.tableau.CubeTableau.+expand.Given as goal

abbrev pub decreases-expand : goal.decreases-expand
decreases-expand l = l.position
