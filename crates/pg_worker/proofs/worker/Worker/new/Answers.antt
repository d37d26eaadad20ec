use Rattle.pg_worker.proofs.Common.{◌≡◌, ◌∙◌, ℕ, List, length, ap, sym, None, length-replicate, zeros, zero_map, BoundList, MeasureValue}
use Rattle.pg_worker.proofs.Working.{none_within, next_empty}
use Rattle.pg_worker.proofs.worker.Worker.new.Goals as goal

pub new-requires-3 : goal.new-requires-3
new-requires-3 c = rw c.in_ok-lines.ensures record { within = none_within c.args.setup.now.vertices (length c.in_ok-map.map.measures) }

-- there is a measure for each vertex
measured : (f : List MeasureValue) (bs : BoundList) (n : ℕ) → f ≡ zero_map bs n → length f ≡ n
measured f bs n e = ap length e ∙ length-replicate n (zeros bs)

pub invariant_of-result : goal.invariant_of-result
invariant_of-result c =
    let n = c.args.setup.now.vertices in
    let size = measured c.in_ok-map.map.measures c.args.setup.now.bounds n c.in_ok-map.ensures.zeros in
    let e = c.in_ok-lifter.ensures in
    rw (e.lines, e.map, c.in_ok-lines.ensures) record {
      size = length-replicate n None ∙ sym size;
      above = next_empty n;
      listed = c.in_ok-lifted.ensures.count ∙ sym size;
    }
