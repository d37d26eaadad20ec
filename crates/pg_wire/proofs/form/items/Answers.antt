use Rattle.pg_wire.proofs.Common.{◌≡◌, ◌++◌, ◌∷◌, [], arith, sub-zero, err_from_is_err_and, so_many}
use Rattle.pg_wire.specs.declared.fault.ReadFault.TheVariants as faults
use Rattle.pg_wire.proofs.Loop.{goes_on, ends, is_done, starts}
use Rattle.pg_wire.proofs.form.items.Goals as goal

pub loop-init : goal.loop-init
loop-init g c = record {
  read = rw (c.in_ok-items.ensures.items, sub-zero)
      (starts ((so_many (g.F.Form.kind c.args.width) c.args.count c.args.place).read c.args.bytes.now));
  less = omega arith;
  capacity = c.in_ok-items.ensures.exact;
  len = c.in_ok-items.ensures.len;
}

pub returns-in_err-item-clause-read : goal.returns-in_err-item-clause-read
returns-in_err-item-clause-read g c =
    let p = err_from_is_err_and c.from_residual-in_err-item.result c.from_residual-in_err-item.ensures.1 in
    rw (p.1, p.2) (ends (g.F.Form.kind c.args.width) (faults.Field c.in_err-item.field-0.0) c.loop.items.items c.args.count c.loop.counter c.loop.at c.loop.rest.now ((so_many (g.F.Form.kind c.args.width) c.args.count c.args.place).read c.args.bytes.now) c.loop-test.true c.in_err-item.ensures.read c.loop.invariant.read)

pub loop-preserved : goal.loop-preserved
loop-preserved g c =
    let n = c.in_ok-item.item in
    let e : c.push_reserved.new.self.items ≡ c.loop.items.items ++ n ∷ [] = c.push_reserved.ensures.items in
    record {
      read = rw (e, c.place_after_item-at.ensures c.args.width) (goes_on (g.F.Form.kind c.args.width) c.loop.items.items c.args.count c.loop.counter c.loop.at c.loop.rest.now n c.in_ok-item.after.now ((so_many (g.F.Form.kind c.args.width) c.args.count c.args.place).read c.args.bytes.now) c.loop-test.true c.in_ok-item.ensures.read c.loop.invariant.read);
      less = omega (arith, c.in_ok-item.ensures.less, c.loop.invariant.less);
      capacity = omega (arith, c.push_reserved.ensures.capacity, c.loop.invariant.capacity);
      len = omega (arith, c.push_reserved.ensures.len);
    }

pub returns-clause-read : goal.returns-clause-read
returns-clause-read g c = is_done (g.F.Form.kind c.args.width) c.loop.items.items c.args.count c.loop.counter c.loop.at c.loop.rest.now ((so_many (g.F.Form.kind c.args.width) c.args.count c.args.place).read c.args.bytes.now) c.loop-test.false c.loop.invariant.read
