use Rattle.pg_hoa.proofs.terms.+add_to_sum.Given as goal

abbrev pub decreases-add_to_sum : goal.decreases-add_to_sum
decreases-add_to_sum l = l.further
