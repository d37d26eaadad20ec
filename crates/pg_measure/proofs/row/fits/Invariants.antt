use Rattle.std.proofs.Common.{ℕ, ◌<◌, ◌≤◌, get_or}
use Rattle.pg_measure.proofs.row.fits.Given as goal

-- no component so far is above its bound
abbrev pub invariant-loop-i : goal.invariant-loop-i
invariant-loop-i l = (k : ℕ) (d : ℕ × ℕ) → k < l.i → get_or l.list k 0 ≤ (get_or l.bounds k d).1
