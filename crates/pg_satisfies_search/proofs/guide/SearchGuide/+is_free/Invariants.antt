use Rattle.pg_satisfies_search.proofs.guide.SearchGuide.+is_free.Given as goal

abbrev pub decreases-is_free : goal.decreases-is_free
decreases-is_free l = l.position
