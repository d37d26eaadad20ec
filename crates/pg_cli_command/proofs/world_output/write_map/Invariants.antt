use Rattle.pg_cli_command.proofs.Common.{take, List, flat_map, zip, Appends, MeasureValue, IsMapOf}
use Rattle.pg_cli_command.proofs.Writing.{pair_line}
use Rattle.pg_cli_command.proofs.world_output.write_map.Given as goal

abbrev pub invariant-loop-number : goal.invariant-loop-number
invariant-loop-number g l =
    let contents = g.W.Write.contents in
    (f : List MeasureValue) → IsMapOf l.world l.replica f
    → Appends (contents l.fn.writer) (contents l.writer) (flat_map pair_line (take l.number (zip l.world.game f)))
