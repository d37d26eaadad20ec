use Rattle.pg_hoa.proofs.Common.{◌^◌, take, map, line_in, stage, Adds, at_lines}
use Rattle.pg_hoa.proofs.table.table_of.Given as goal

-- the steps of the lines so far
abbrev pub invariant-loop-line : goal.invariant-loop-line
invariant-loop-line l =
    Adds l.shape (at_lines (2 ^ l.propositions) (map line_in (take l.line-index l.lines))) (stage l.initial.filling) (stage l.filling)
