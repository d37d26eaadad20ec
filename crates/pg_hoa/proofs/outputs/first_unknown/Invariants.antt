use Rattle.pg_hoa.proofs.Common.{ℕ, List, ◌<◌, Bor, get_or}
use Rattle.std.specs.Prelude.{Contains}
use Rattle.pg_hoa.proofs.outputs.first_unknown.Given as goal

-- each name so far is that of a proposition
abbrev pub invariant-loop-place : goal.invariant-loop-place
invariant-loop-place l =
    (k : ℕ) (d : Bor (List ℕ)) → k < l.place → Contains l.automaton.propositions (get_or l.names k d).now
