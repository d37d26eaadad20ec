use Rattle.pg_wire.proofs.Common.{◌<◌, ◌≤◌, ◌-◌, ◌+◌, length, take, List, ℕ, Ok, refl, ap, ◌∙◌, arith, take_all, take_more_set}
use Rattle.pg_wire.proofs.Common.{err_from_is_err_and, components, so_many}
use Rattle.pg_wire.specs.declared.fault.ReadFault.TheVariants as faults
use Rattle.pg_wire.proofs.Loop.{goes_on, ends, is_done, with_front}
use Rattle.pg_wire.proofs.reader.read_numbers.Goals as goal

pub returns-in_err-n : goal.returns-in_err-n
returns-in_err-n c =
    let p = err_from_is_err_and c.from_residual.result c.from_residual.ensures.1 in
    rw (p.1, p.2) (record {
      read = ends components (faults.Field _) (take c.loop-place.place-index c.loop-place.row)
          (length c.args.row.now) c.loop-place.place-index 0 c.loop-place.rest.now
          ((so_many components (length c.args.row.now) 0).read c.args.bytes.now) c.loop-place-test.true c.in_err-n.ensures.read c.loop-place.invariant.read;
      less = tt;
      cut = omega (arith, c.in_err-n.ensures.cut refl refl, c.loop-place.invariant.less, c.loop-place-test.true);
    })

pub loop-place-preserved : goal.loop-place-preserved
loop-place-preserved c =
    let i = c.loop-place.place-index in
    let after = (so_many components (length c.args.row.now - (i + 1)) 0).read c.in_ok-n.after.now in
    let lt : i < length c.loop-place.row = omega arith in
    record {
      read = ap (λ (front : List ℕ). with_front front after) (take_more_set c.loop-place.row i c.in_ok-n.n lt)
          ∙ goes_on components (take i c.loop-place.row) (length c.args.row.now) i 0 c.loop-place.rest.now c.in_ok-n.n c.in_ok-n.after.now ((so_many components (length c.args.row.now) 0).read c.args.bytes.now) c.loop-place-test.true c.in_ok-n.ensures.read c.loop-place.invariant.read;
      less = omega (arith, c.in_ok-n.ensures.size, c.loop-place.invariant.less);
    }

pub returns : goal.returns
returns c =
    let all : length c.loop-place.row ≤ c.loop-place.place-index = omega arith in
    record {
      read = is_done components (take c.loop-place.place-index c.loop-place.row)
          (length c.args.row.now) c.loop-place.place-index 0 c.loop-place.rest.now
          ((so_many components (length c.args.row.now) 0).read c.args.bytes.now) c.loop-place-test.false c.loop-place.invariant.read
          ∙ ap (λ (xs : List ℕ). Ok (xs, c.loop-place.rest.now)) (take_all c.loop-place.place-index c.loop-place.row all);
      less = omega (arith, c.loop-place.invariant.less);
      cut = tt;
    }
