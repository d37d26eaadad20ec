use Rattle.pg_text.proofs.Common.{subst, sym, ap, flat_map, Appends, take_rest, comma_number}
use Rattle.pg_text.proofs.Printing.{Completes, completes_rest}
use Rattle.pg_text.proofs.writing.write_comma_numbers.Goals as goal

pub runs-preserved-then-count-gt1 : goal.runs-preserved-then-count-gt1
runs-preserved-then-count-gt1 g c =
    let contents = g.W.Write.contents in
    let text = sym (ap (flat_map comma_number) c.zeros-count.ensures.zeros) in
    let more = subst (Appends (contents c.runs.out) (contents c.write_comma_zeros.new.out)) text (c.in_ok-write_comma_zeros.ensures) in
    let old = contents c.args.out.now in
    let new = contents c.write_comma_zeros.new.out in
    subst (Completes old new c.args.numbers.now) (sym (take_rest c.runs.rest.now c.zeros-count.result))
    (completes_rest old (contents c.runs.out) new c.args.numbers.now c.runs.rest.now c.zeros-count.result c.runs.invariant more)
