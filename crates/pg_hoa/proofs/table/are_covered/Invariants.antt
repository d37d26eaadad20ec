use Rattle.pg_hoa.proofs.Common.{◌≡◌, ℕ, ◌+◌, ◌<◌, true, get_or, truth, truth_in}
use Rattle.pg_hoa.proofs.table.are_covered.Given as goal

-- the words so far
abbrev pub invariant-loop-k : goal.invariant-loop-k
invariant-loop-k l = (i j : ℕ) → i < l.k → j < 64 → truth_in l.words i j ≡ true
    → truth (get_or l.filling.covered.words.items (l.from + i) 0) j ≡ true
