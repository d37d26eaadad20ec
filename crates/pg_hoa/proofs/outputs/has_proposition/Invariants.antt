use Rattle.pg_hoa.proofs.Common.{ℕ, ◌<◌, ◌≢◌, get_or}
use Rattle.pg_hoa.proofs.outputs.has_proposition.Given as goal

-- no proposition so far has the name
abbrev pub invariant-loop-a : goal.invariant-loop-a
invariant-loop-a l = (k : ℕ) → k < l.a → get_or l.automaton.propositions k l.name ≢ l.name
