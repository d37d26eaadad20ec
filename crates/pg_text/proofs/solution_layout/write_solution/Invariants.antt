use Rattle.pg_text.proofs.Common.{take, flat_map, Appends, printed_lines, answer_text}
use Rattle.pg_text.proofs.solution_layout.write_solution.Given as goal

abbrev pub invariant-loop-v : goal.invariant-loop-v
invariant-loop-v g l = Appends (g.W.Write.contents l.initial.out) (g.W.Write.contents l.out) (flat_map answer_text (take l.v (printed_lines l.game l.solution)))
