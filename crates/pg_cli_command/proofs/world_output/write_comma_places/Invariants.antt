use Rattle.pg_cli_command.proofs.Common.{take, flat_map, Appends, comma_number}
use Rattle.pg_cli_command.proofs.world_output.write_comma_places.Given as goal

abbrev pub invariant-loop-place : goal.invariant-loop-place
invariant-loop-place g l =
    let contents = g.W.Write.contents in
    Appends (contents l.fn.writer) (contents l.writer) (flat_map comma_number (take l.place-index l.places))
