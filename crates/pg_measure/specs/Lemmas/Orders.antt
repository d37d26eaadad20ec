-- Comparing measures is a total order.
use Rattle.std.specs.Prelude.{◌≡◌, Some, None, refl}
use Rattle.std.specs.Ordering.{nat_cmp, on, flip_args}
use Rattle.std.specs.Option.{option_cmp}
use Rattle.std.specs.Cmp.{IsTotalOrder, on_total, back_total, nat_cmp_total}
use Rattle.std.specs.Cmp.Lexicographic.{slice_cmp, lists_total, options_total}
use Rattle.std.proofs.Common.{subst}
use Rattle.pg_measure.specs.Measures.{MeasureValue, OwnedMeasure, measure_cmp}

-- `option_cmp` has `None` below everything else, so it is reversed to have top above everything else
as_options : (m n : MeasureValue) → flip_args (option_cmp (flip_args (slice_cmp nat_cmp))) m n ≡ measure_cmp m n
as_options None None = refl
as_options None (Some ys) = refl
as_options (Some xs) None = refl
as_options (Some xs) (Some ys) = refl

measure_total : IsTotalOrder measure_cmp
measure_total =
    subst IsTotalOrder (λ i m n. as_options m n i) (back_total (options_total (back_total (lists_total nat_cmp_total))))

pub owned_total : IsTotalOrder (on (λ (m : OwnedMeasure). m.value) measure_cmp)
owned_total = on_total (λ m. m.value) measure_total
