use Rattle.pg_cli_command.proofs.Common.{take, flat_map, enumerate_from, Appends, update_line}
use Rattle.pg_cli_command.proofs.world_output.write_updates.Given as goal

abbrev pub invariant-loop-place : goal.invariant-loop-place
invariant-loop-place g l =
    let contents = g.W.Write.contents in
    Appends (contents l.fn.writer) (contents l.writer)
    (flat_map (λ x. update_line l.world.game x.0 x.1) (take l.place (enumerate_from 0 l.world.updates)))
