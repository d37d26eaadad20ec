use Rattle.pg_cli_command.proofs.Common.{List, take, flat_map, enumerate_from, Appends, MeasureValue, replica_text, AreMapsOf}
use Rattle.pg_cli_command.proofs.world_output.write_world.Given as goal

abbrev pub invariant-loop-replica : goal.invariant-loop-replica
invariant-loop-replica g l =
    let contents = g.W.Write.contents in
    (maps : List (List MeasureValue)) → AreMapsOf l.world maps
    → Appends (contents l.initial.writer) (contents l.writer)
    (flat_map (λ x. replica_text l.world x.0 x.1) (take l.replica (enumerate_from 0 maps)))
