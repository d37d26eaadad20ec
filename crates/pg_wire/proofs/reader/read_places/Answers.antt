use Rattle.pg_wire.proofs.Common.{◌≡◌, ◌≢◌, ◌<◌, ◌+◌, ◌++◌, ◌∷◌, [], length, get_or, List, ℕ, Ok, sym, ap, ◌∙◌, arith, sub-zero}
use Rattle.pg_wire.proofs.Common.{get_or-replicate, length-set, fill_by_all, All-push, All-weaker, err_from_is_err_and, places, so_many}
use Rattle.pg_wire.proofs.Common.{component_in, filled}
use Rattle.pg_wire.proofs.Filling.{Pair, filled_more}
use Rattle.pg_wire.specs.declared.fault.ReadFault.TheVariants as faults
use Rattle.pg_wire.proofs.Loop.{goes_on, ends, is_done, starts}
use Rattle.pg_wire.proofs.Skip.{filled_read, filled_refused}
use Rattle.pg_wire.proofs.reader.read_places.Goals as goal

pub loop-init : goal.loop-init
loop-init c = record {
  front = [];
  read = rw sub-zero (starts ((so_many (places c.args.width) c.args.count 0).read c.args.bytes.now));
  past = λ i d lt. absurd (omega arith);
  filled = λ k lt. ap (λ (r : List ℕ). get_or r k 0) (c.fill.ensures.after (λ y e. e))
      ∙ get_or-replicate {A = ℕ} (length c.args.row.now) k 0 0 (omega (arith, c.fill.ensures.len));
  less = omega arith;
}

pub returns-in_err-place : goal.returns-in_err-place
returns-in_err-place c =
    let p = err_from_is_err_and c.from_residual.result c.from_residual.ensures.1 in
    rw (p.1, p.2) (record {
      read = filled_refused c.args.width c.args.count c.args.bytes.now _
          (ends (places c.args.width) (faults.Field _) c.loop.invariant.front c.args.count c.loop.counter c.loop.at c.loop.rest.now
          ((so_many (places c.args.width) c.args.count 0).read c.args.bytes.now) c.loop-test.true c.in_err-place.ensures.read c.loop.invariant.read);
      less = tt;
    })

pub loop-preserved : goal.loop-preserved
loop-preserved c =
    let i = c.loop.invariant in
    let place = c.in_ok-place.place in
    let range = c.in_ok-place.ensures.range in
    let p : Pair = (place, c.in_ok-place.n) in
    let below : place < length c.loop.row = omega (arith, c.loop.auto.row, c.fill.ensures.len, c.requires, range.1) in
    let apart : (j : ℕ) (d : Pair) → j < length i.front → (get_or i.front j d).0 ≢ place = λ j d lt e. absurd (omega (arith, i.past j d lt, range.0, e)) in
    record {
      front = i.front ++ p ∷ [];
      read = goes_on (places c.args.width) i.front c.args.count c.loop.counter c.loop.at c.loop.rest.now p c.in_ok-place.after.now ((so_many (places c.args.width) c.args.count 0).read c.args.bytes.now) c.loop-test.true c.in_ok-place.ensures.read i.read;
      past = All-push (λ (q : Pair). q.0 < place + 1) i.front p (All-weaker (λ (q : Pair). q.0 < c.loop.at) (λ (q : Pair). q.0 < place + 1)
          (λ q h. omega (arith, range.0, h)) i.front i.past) (omega arith);
      filled = λ k lt. filled_more c.loop.row i.front p below apart i.filled k (simp length-set at lt);
      less = omega (arith, c.in_ok-place.ensures.size, i.less);
    }

pub returns : goal.returns
returns c =
    let i = c.loop.invariant in
    let size : length c.loop.row ≡ c.args.width = c.loop.auto.row ∙ c.fill.ensures.len ∙ c.requires in
    let row : c.loop.row ≡ filled c.args.width i.front = fill_by_all (component_in i.front) c.loop.row c.args.width 0 size
    (λ k lt. i.filled k (omega (arith, size, lt))) in
    record {
      read = filled_read c.args.width c.args.count c.args.bytes.now i.front c.loop.rest.now
          (is_done (places c.args.width) i.front c.args.count c.loop.counter c.loop.at c.loop.rest.now
          ((so_many (places c.args.width) c.args.count 0).read c.args.bytes.now) c.loop-test.false i.read)
          ∙ ap (λ (ns : List ℕ). Ok (ns, c.loop.rest.now)) (sym row);
      less = i.less;
    }
