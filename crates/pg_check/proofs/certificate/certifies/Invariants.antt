use Rattle.pg_check.proofs.Common.{ℕ, ◌<◌, winner, IsCertifiedFor}
use Rattle.pg_check.proofs.certificate.certifies.Given as goal

abbrev pub invariant-loop-number : goal.invariant-loop-number
invariant-loop-number l =
    (v : ℕ) → v < l.number → IsCertifiedFor (winner l.solution v) l.game l.even l.odd l.solution v
