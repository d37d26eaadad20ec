use Rattle.pg_cli_command.proofs.Common.{◌≤◌, length, ap, arith, length-map, update_value, update_line}
use Rattle.pg_cli_command.proofs.WorldTexts.{placed_all, vertex_within, update_more}
use Rattle.pg_cli_command.proofs.world_output.write_updates.Goals as goal

pub identifier-requires : goal.identifier-requires
identifier-requires g c =
    let w = c.args.world.now in
    vertex_within w.game c.game-game.result.now c.updates-update-items.result.now w.updates c.loop-place.place c.update-item.result c.game-game.ensures.value
    c.updates-update-items.ensures c.loop-place-test.true c.update-item.is c.requires

pub loop-place-preserved : goal.loop-place-preserved
loop-place-preserved g c =
    let contents = g.W.Write.contents in
    let w = c.args.world.now in
    update_more w.game c.game-game.result.now c.updates-update-items.result.now w.updates c.loop-place.place c.identifier.result c.update-item.result _
    (contents c.args.writer.now) (contents c.loop-place.writer) (contents c.write_all.new.self) (contents c.write_place.new.writer)
    (contents c.write_all-in-loop-place.new.self) (contents c.write_measure_line.new.writer)
    c.game-game.ensures.value c.updates-update-items.ensures c.loop-place-test.true c.update-item.is c.identifier.ensures
    c.view.ensures.value c.loop-place.invariant c.in_ok-write_all.ensures.bytes c.in_ok-write_place.ensures
    c.in_ok-write_all-2.ensures.bytes c.in_ok-write_measure_line.ensures

pub returns : goal.returns
returns g c =
    let contents = g.W.Write.contents in
    let w = c.args.world.now in
    let items = c.updates-update-items.result.now in
    let past : length w.updates ≤ c.loop-place.place =
    omega (arith, c.loop-place-test.false, length-map items update_value, ap length c.updates-update-items.ensures) in
    placed_all (λ x. update_line w.game x.0 x.1) w.updates c.loop-place.place (contents c.args.writer.now)
    (contents c.loop-place.writer) past c.loop-place.invariant
