use Rattle.std.proofs.Common.{length}
use Rattle.pg_text.proofs.Printing.{Completes}
use Rattle.pg_text.proofs.writing.write_comma_numbers.Given as goal

abbrev pub invariant-runs : goal.invariant-runs
invariant-runs g l =
    let contents = g.W.Write.contents in
    Completes (contents l.fn.out) (contents l.out) l.numbers l.rest

abbrev pub decreases-runs : goal.decreases-runs
decreases-runs g l = length l.rest
