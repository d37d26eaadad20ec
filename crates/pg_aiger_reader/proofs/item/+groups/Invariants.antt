use Rattle.pg_aiger_reader.proofs.item.+groups.Given as goal

abbrev pub decreases-groups : goal.decreases-groups
decreases-groups l = l.most
