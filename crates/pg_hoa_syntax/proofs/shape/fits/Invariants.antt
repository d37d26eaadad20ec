use Rattle.pg_hoa_syntax.proofs.Common.{◌≡◌, ◌<◌, ◌-◌, set_at, wanted_at, nests_at}
use Rattle.pg_hoa_syntax.proofs.shape.fits.Given as goal

-- what is left nests as the whole does
abbrev pub invariant-loop-inside : goal.invariant-loop-inside
invariant-loop-inside l = record {
  within : l.inside < l.sets;
  same : nests_at (set_at l.shape l.sets) (wanted_at l.shape l.sets) l.inside l.rest ≡ nests_at (set_at l.shape l.sets)
      (wanted_at l.shape l.sets) (l.sets - 1) l.ops;
}

abbrev pub decreases-loop-inside : goal.decreases-loop-inside
decreases-loop-inside l = l.inside
