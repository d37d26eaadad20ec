use Rattle.pg_text.proofs.Common.{◌≡◌, ℕ, ◌<◌, true, is_complete}
use Rattle.pg_text.proofs.solution_text.first_missing.Given as goal

-- each vertex so far is answered
abbrev pub invariant-loop-i : goal.invariant-loop-i
invariant-loop-i l = (u : ℕ) → u < l.i → is_complete l.game l.solution l.seen u ≡ true
