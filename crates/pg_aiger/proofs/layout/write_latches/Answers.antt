use Rattle.pg_aiger.proofs.Common.{◌≡◌, ◌+◌, ◌*◌, take, get_or, arith, refl, subst, Appends, Latch, row_text, latch_row, latches_from}
use Rattle.pg_aiger.proofs.Printing.{row_push, latches_more}
use Rattle.pg_aiger.proofs.layout.write_latches.Goals as goal

pub loop-next-preserved : goal.loop-next-preserved
loop-next-preserved g c =
    let next = get_or c.args.nexts.now c.loop-next.next-index 0 in
    let latch : Latch = record { literal = 2 * (c.args.first + c.loop-next.next-index); next = next } in
    let counted : c.loop-next.variable ≡ c.args.first + c.loop-next.next-index = c.loop-next.invariant.0 in (
      omega (arith, counted),
      row_push (g.W.Write.contents c.args.out.now) (g.W.Write.contents c.loop-next.out) (g.W.Write.contents c.write_line.new.out) latch_row
          (latches_from c.args.first (take c.loop-next.next-index c.args.nexts.now))
          (latches_from c.args.first (take (c.loop-next.next-index + 1) c.args.nexts.now)) latch
          (latches_more c.args.first c.loop-next.next-index c.args.nexts.now next c.loop-next-test.true refl) c.loop-next.invariant.1
          (subst (λ v. Appends (g.W.Write.contents c.loop-next.out) (g.W.Write.contents c.write_line.new.out)
          (row_text (latch_row (record { literal = 2 * v; next = next })))) counted c.in_ok-write_line.ensures),
    )
