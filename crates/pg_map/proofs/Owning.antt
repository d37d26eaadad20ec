-- A row for each vertex.
use Rattle.pg_map.proofs.Common.{◌≡◌, ℕ, ◌+◌, ◌-◌, ◌<◌, ◌^◌, Some, length, replicate, arith, nat_tests, length-replicate, All-replicate}
use Rattle.pg_map.proofs.Common.{BoundList, Fits, zeros, zeros_fit, RowsValue, AreRowsOf}

-- rows of zeros
pub rows_of_zeros : (bs : BoundList) (rows : RowsValue) (n w : ℕ) → w ≡ length bs + 1 → rows.width ≡ w → n < 2 ^ 32
    → rows.measures ≡ replicate n (Some (replicate (w - 1) 0)) → AreRowsOf bs rows
rows_of_zeros bs rows n w e ew l g = grind (arith, nat_tests, length-replicate n (zeros bs), All-replicate (Fits bs) n (zeros bs) (zeros_fit bs))
