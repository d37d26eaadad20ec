use Rattle.std.proofs.Common.{ℕ, ◌<◌}
use Rattle.pg_map_claims.specs.Mirrors.Backing.{claim_at, IsGoodClaim}
use Rattle.pg_map_claims.proofs.certifying.are_good_claims.Given as goal

abbrev pub invariant-loop-number : goal.invariant-loop-number
invariant-loop-number g l =
    (k : ℕ) → k < l.number → IsGoodClaim (g.G.Lines.line l.lines) l.ladder l.claims l.known (claim_at l.claims k)
