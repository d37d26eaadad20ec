use Rattle.pg_text.proofs.Common.{take, flat_map, Appends, lines_of, line_text}
use Rattle.pg_text.proofs.layout.write_game.Given as goal

abbrev pub invariant-loop-v : goal.invariant-loop-v
invariant-loop-v g l = Appends (g.W.Write.contents l.initial.out) (g.W.Write.contents l.out) (flat_map line_text (take l.v (lines_of l.game)))
