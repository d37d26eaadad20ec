use Rattle.pg_wire.proofs.Common.{◌≡◌, ◌∙◌, Err, ℕ, List, length, take, ap, sym, subst, refl, inl, inr, arith, err_from_is_err_and, length-take}
use Rattle.pg_wire.proofs.Common.{WireFault, IsTooLong}
use Rattle.pg_wire.proofs.Consumed.{none_read, cut, long, too_long_alone, body_fault, read_whole, filled_all}
use Rattle.pg_wire.proofs.Numbers.{number_is}
use Rattle.pg_wire.proofs.stream.read_frame_bytes.Goals as goal

pub returns-then-count-eq0-clause-end : goal.returns-then-count-eq0-clause-end
returns-then-count-eq0-clause-end g c = λ _.
    let front = c.fill.new.buffer in
    none_read (g.R.Read.remaining c.args.input.now) (g.R.Read.remaining c.fill.new.input) (take c.in_ok-count.count front) c.in_ok-count.ensures.bytes
    (ap (λ (k : ℕ). take k front) c.if-count-eq0.true) (c.in_ok-count.ensures.end (omega (arith, c.fill.auto.buffer, c.if-count-eq0.true)))

pub returns-then-count-lt4-clause-fault : goal.returns-then-count-lt4-clause-fault
returns-then-count-lt4-clause-fault g c =
    let front = c.fill.new.buffer in
    let size : length (take c.in_ok-count.count front) ≡ c.in_ok-count.count = omega
    (arith, length-take c.in_ok-count.count front, c.in_ok-count.ensures.bound) in
    inr (inr (
      inr refl,
      cut (g.R.Read.remaining c.args.input.now) (g.R.Read.remaining c.fill.new.input) (take c.in_ok-count.count front) c.in_ok-count.ensures.bytes
          (omega (arith, size, c.if-count-eq0.false)) (omega (arith, size, c.if-count-lt4.true))
          (c.in_ok-count.ensures.end (omega (arith, c.fill.auto.buffer, c.if-count-lt4.true))),
    ))

pub returns-then-len-gt-LONGEST-clause-fault : goal.returns-then-len-gt-LONGEST-clause-fault
returns-then-len-gt-LONGEST-clause-fault g c =
    let front = c.fill.new.buffer in
    let taken = filled_all (g.R.Read.remaining c.args.input.now) (g.R.Read.remaining c.fill.new.input) front c.in_ok-count.count 4 c.fill.auto.buffer
    c.if-count-lt4.false c.in_ok-count.ensures.bound c.in_ok-count.ensures.bytes in
    let over = c.if-len-gt-LONGEST.true in
    inr (inr (
      inl refl,
      long (g.R.Read.remaining c.args.input.now) (g.R.Read.remaining c.fill.new.input) front taken c.fill.auto.buffer
          (rw (c.read_u32-len.ensures ∙ number_is front) at over),
    ))

pub returns-then-len-gt-LONGEST-clause-too_long : goal.returns-then-len-gt-LONGEST-clause-too_long
returns-then-len-gt-LONGEST-clause-too_long g c = λ _.
    let front = c.fill.new.buffer in
    let started : c.extend_from_slice.new.self.items ≡ front = rw (c.if-is_err.ensures.negation, c.clear.ensures.items) at c.extend_from_slice.ensures.items in
    let over = c.if-len-gt-LONGEST.true in
    let P : List ℕ → Type 0 = λ t. IsTooLong t × (length t ≡ 4) in
    subst P (sym started) (too_long_alone front c.fill.auto.buffer (rw (c.read_u32-len.ensures ∙ number_is front) at over))

pub returns-in_err-read_body-clause-fault : goal.returns-in_err-read_body-clause-fault
returns-in_err-read_body-clause-fault g c =
    let front = c.fill.new.buffer in
    let taken = filled_all (g.R.Read.remaining c.args.input.now) (g.R.Read.remaining c.fill.new.input) front c.in_ok-count.count 4 c.fill.auto.buffer
    c.if-count-lt4.false c.in_ok-count.ensures.bound c.in_ok-count.ensures.bytes in
    let within = c.if-len-gt-LONGEST.false in
    let fewer = c.in_err-read_body.ensures.short in
    let p = err_from_is_err_and c.from_residual-in_err-read_body.result c.from_residual-in_err-read_body.ensures.1 in
    let len = c.read_u32-len.ensures ∙ number_is front in
    rw (p.1, p.2) (body_fault (g.R.Read.remaining c.args.input.now) (g.R.Read.remaining c.fill.new.input) front c.in_err-read_body.field-0.0 taken
    c.fill.auto.buffer (rw len at within)
    c.in_err-read_body.ensures.fault (λ e. rw len at (fewer (ap (λ (d : WireFault). Err d) e))))

pub returns-clause-frame : goal.returns-clause-frame
returns-clause-frame g c = λ _.
    let front = c.fill.new.buffer in
    let taken = filled_all (g.R.Read.remaining c.args.input.now) (g.R.Read.remaining c.fill.new.input) front c.in_ok-count.count 4 c.fill.auto.buffer
    c.if-count-lt4.false c.in_ok-count.ensures.bound c.in_ok-count.ensures.bytes in
    let within = c.if-len-gt-LONGEST.false in
    let started : c.extend_from_slice.new.self.items ≡ front = rw (c.if-is_err.ensures.negation, c.clear.ensures.items) at c.extend_from_slice.ensures.items in
    read_whole (g.R.Read.remaining c.args.input.now) (g.R.Read.remaining c.fill.new.input)
    (g.R.Read.remaining c.read_body.new.input) c.extend_from_slice.new.self.items front c.read_body.new.bytes.items
    c.read_u32-len.result taken c.fill.auto.buffer (c.read_u32-len.ensures ∙ number_is front) within started c.in_ok-read_body.ensures.bytes
