use Rattle.pg_aiger.proofs.Common.{ℕ, ◌<◌, get_or}
use Rattle.pg_aiger.proofs.parts.are_below.Given as goal

abbrev pub invariant-loop-literal : goal.invariant-loop-literal
invariant-loop-literal l = (k : ℕ) → k < l.literal-index → get_or l.literals k 0 < l.limit
