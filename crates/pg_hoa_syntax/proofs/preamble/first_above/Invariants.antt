use Rattle.std.proofs.Common.{◌<◌, ℕ, get_or}
use Rattle.pg_hoa_syntax.proofs.preamble.first_above.Given as goal

-- each number before the index is below the count
abbrev pub invariant-loop-number : goal.invariant-loop-number
invariant-loop-number l = (k : ℕ) (d : ℕ × ℕ) → k < l.number-index → (get_or l.controls k d).0 < l.count
