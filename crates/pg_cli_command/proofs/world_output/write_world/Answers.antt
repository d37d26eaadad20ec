use Rattle.pg_cli_command.proofs.Common.{◌≤◌, ◌+◌, [], length, get_or, refl, arith, flat_map, enumerate_from, update_line, replica_text}
use Rattle.pg_cli_command.proofs.Writing.{appends_then}
use Rattle.pg_cli_command.proofs.WorldTexts.{placed_more, placed_all}
use Rattle.pg_cli_command.proofs.world_output.write_world.Goals as goal

pub loop-replica-preserved : goal.loop-replica-preserved
loop-replica-preserved g c = λ maps are.
    let contents = g.W.Write.contents in
    let w = c.args.world.now in
    let r = c.loop-replica.replica in
    let within : r ≤ w.cut.workers = omega (arith, c.loop-replica-test.true, c.workers-replica-end.ensures) in
    placed_more (λ x. replica_text w x.0 x.1) maps r (get_or maps r []) [] (contents c.write_updates.new.writer) (contents c.loop-replica.writer)
    (contents c.write_replica.new.writer) (omega (arith, are.count)) refl (c.loop-replica.invariant maps are)
    (c.in_ok-write_replica.ensures (get_or maps r []) (are.each r within))

pub returns-in_ok-write_replica : goal.returns-in_ok-write_replica
returns-in_ok-write_replica g c = λ maps are.
    let contents = g.W.Write.contents in
    let w = c.args.world.now in
    let r = c.loop-replica.replica in
    let begun = contents c.write_updates.new.writer in
    let written = contents c.write_replica.new.writer in
    let within : r ≤ w.cut.workers = omega (arith, c.loop-replica-test.true, c.workers-replica-end.ensures) in
    let last : length maps ≤ r + 1 = omega (arith, are.count, c.workers-replica-end.ensures) in
    let more = placed_more (λ x. replica_text w x.0 x.1) maps r (get_or maps r []) [] begun (contents c.loop-replica.writer) written
    (omega (arith, are.count)) refl (c.loop-replica.invariant maps are) (c.in_ok-write_replica.ensures (get_or maps r []) (are.each r within)) in
    let all = placed_all (λ x. replica_text w x.0 x.1) maps (r + 1) begun written last more in
    appends_then (contents c.args.writer.now) begun written (flat_map (λ x. update_line w.game x.0 x.1) (enumerate_from 0 w.updates))
    (flat_map (λ x. replica_text w x.0 x.1) (enumerate_from 0 maps)) c.in_ok-write_updates.ensures all
