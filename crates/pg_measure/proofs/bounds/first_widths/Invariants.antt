use Rattle.pg_measure.proofs.Common.{◌≡◌, length, AreWidths}
use Rattle.pg_measure.proofs.bounds.first_widths.Given as goal

-- the priorities below `p` have their widths
abbrev pub invariant-loop-p : goal.invariant-loop-p
invariant-loop-p l = (length l.widths.items ≡ l.p) × AreWidths l.pairs l.widths.items
