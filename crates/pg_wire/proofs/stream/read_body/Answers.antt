use Rattle.std.proofs.Common.{◌≡◌, ℕ, ◌+◌, ◌-◌, List, ◌++◌, length, take, replicate, ap, ◌∙◌, append_assoc, arith}
use Rattle.std.proofs.lemmas.List.{length-take, length-append}
use Rattle.pg_wire.proofs.Consumed.{consumes_then, end_size, filled_all, filled_after, fell_short}
use Rattle.pg_wire.proofs.stream.read_body.Goals as goal

pub loop-left-preserved : goal.loop-left-preserved
loop-left-preserved g c =
    let inv = c.loop-left.invariant in
    let buffer = c.fill.new.buffer in
    let start = c.len-start.result in
    let size = c.min-size.result in
    let old = c.loop-left.bytes in
    let slice = c.deref_mut.result.now in
    let long : c.resize.new.self.len ≡ start + size = rw c.if-is_err.ensures.negation at c.resize.ensures.len in
    let made : slice ≡ take (start + size) old.items ++ replicate (start + size - old.len) 0 = c.deref_mut.ensures.value
    ∙ rw c.if-is_err.ensures.negation at c.resize.ensures.items in
    let at : start ≡ length old.items = omega (arith, c.len-start.ensures, old.ok) in
    let filled : length buffer ≡ size = end_size slice buffer start size _ c.fill.auto.buffer c.deref_mut.ensures.len long in
    let read = filled_all (g.R.Read.remaining c.loop-left.input) (g.R.Read.remaining c.fill.new.input) buffer c.in_ok-count.count size filled
    c.if-count-size.false c.in_ok-count.ensures.bound c.in_ok-count.ensures.bytes in
    record {
      body = inv.body ++ buffer;
      appended = filled_after old.items slice buffer _ _ (replicate (start + size - old.len) 0) start size c.resize.new.self.len at made filled long
          ∙ ap (λ (t : List ℕ). t ++ buffer) inv.appended ∙ append_assoc c.args.bytes.now.items inv.body buffer;
      size = omega (arith, length-append inv.body buffer, inv.size, filled, c.min-size.ensures);
      consumed = consumes_then (g.R.Read.remaining c.args.input.now) (g.R.Read.remaining c.loop-left.input)
          (g.R.Read.remaining c.fill.new.input) inv.body buffer inv.consumed read;
    }

pub returns-then-count-size-clause-short : goal.returns-then-count-size-clause-short
returns-then-count-size-clause-short g c = λ _.
    let inv = c.loop-left.invariant in
    let buffer = c.fill.new.buffer in
    let start = c.len-start.result in
    let slice = c.deref_mut.result.now in
    let long : c.resize.new.self.len ≡ start + c.min-size.result = rw c.if-is_err.ensures.negation at c.resize.ensures.len in
    let filled : length buffer ≡ c.min-size.result = end_size slice buffer start _ _ c.fill.auto.buffer c.deref_mut.ensures.len long in
    fell_short (g.R.Read.remaining c.args.input.now) (g.R.Read.remaining c.loop-left.input) (g.R.Read.remaining c.fill.new.input) inv.body
    (take c.in_ok-count.count buffer) c.args.len inv.consumed c.in_ok-count.ensures.bytes
    (c.in_ok-count.ensures.end (omega (arith, filled, c.if-count-size.true)))
    (omega (arith, inv.size, c.min-size.ensures, c.if-count-size.true, length-take c.in_ok-count.count buffer))
