-- Odd priorities that fall are few.
use Rattle.pg_wire.proofs.Common.{◌≡◌, ℕ, suc, ◌*◌, ◌%◌, ◌<◌, ◌≤◌, List, [], ◌∷◌, length, All, arith, AllPairs, Setup, IsBound, IsSetup}
use Rattle.pg_wire.proofs.Orders.{pairs_head, pairs_tail}

few_below : (top : ℕ) (ps : List (ℕ × ℕ)) → All IsBound ps → AllPairs (λ p q. q.0 < p.0) ps → All (λ p. p.0 < top) ps → 2 * length ps ≤ top
few_below top [] bounds falling below = omega arith
few_below top (p ∷ ps) bounds falling below =
    let odd : p.0 % 2 ≡ 1 = (bounds 0 p (omega arith)).odd in
    let lt : p.0 < top = below 0 p (omega arith) in
    let rest = few_below p.0 ps (λ i d lt. bounds (suc i) d (omega arith)) (pairs_tail (λ p q. q.0 < p.0) p ps falling)
    (pairs_head (λ p q. q.0 < p.0) p ps falling) in
    omega arith

pub few_bounds : (s : Setup) → IsSetup s → length s.bounds ≤ 32768
few_bounds s h =
    let below : All (λ p. p.0 < 65536) s.bounds = λ i d lt. omega (arith, (h.bounds.bounds i d lt).priority) in
    omega (arith, few_below 65536 s.bounds h.bounds.bounds h.bounds.falling below)
