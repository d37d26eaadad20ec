use Rattle.pg_check.proofs.Common.{ℕ, ◌<◌, IsLost, HasNoCycle}
use Rattle.pg_check.proofs.checker.search_each.Given as goal

abbrev pub invariant-loop-number : goal.invariant-loop-number
invariant-loop-number l = (v : ℕ) → v < l.number → IsLost l.game l.solution v → HasNoCycle l.game l.solution v
