use Rattle.pg_hoa.proofs.Common.{◌≡◌, drop, with_sets}
use Rattle.pg_hoa.proofs.table.counts_with.Given as goal

-- those that are left lead to the same
abbrev pub invariant-loop-set : goal.invariant-loop-set
invariant-loop-set l = with_sets l.shape l.found (drop l.set-index l.sets) ≡ with_sets l.shape l.initial.found l.sets
