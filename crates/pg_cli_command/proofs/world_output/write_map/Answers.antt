use Rattle.pg_cli_command.proofs.Common.{◌≡◌, ◌<◌, ◌≤◌, List, length, ap, ◌∙◌, arith, GameVertex, identifier}
use Rattle.pg_cli_command.proofs.Writing.{written_more, written_all}
use Rattle.pg_cli_command.proofs.world_output.write_map.Goals as goal

pub loop-number-preserved : goal.loop-number-preserved
loop-number-preserved g c = λ f is.
    let contents = g.W.Write.contents in
    let game = c.args.world.now.game in
    let v = c.loop-number.number in
    let same : c.game-game.result.now ≡ game = c.game-game.ensures.value in
    let within : v < length game = omega (arith, c.loop-number-test.true, c.len-number-end.ensures.value, ap length same) in
    let named : c.identifier.result ≡ identifier game v = c.identifier.ensures ∙ ap (λ (x : List GameVertex). identifier x v) same in
    written_more game f v c.identifier.result _ (contents c.args.writer.now) (contents c.loop-number.writer)
    (contents c.write_measure_line.new.writer) within is.map.size named (c.map_of.ensures.value f is)
    (c.loop-number.invariant f is) c.in_ok-write_measure_line.ensures

pub returns : goal.returns
returns g c = λ f is.
    let contents = g.W.Write.contents in
    let game = c.args.world.now.game in
    let same : c.game-game.result.now ≡ game = c.game-game.ensures.value in
    let past : length game ≤ c.loop-number.number = omega (arith, c.loop-number-test.false, c.len-number-end.ensures.value, ap length same) in
    written_all game f c.loop-number.number (contents c.args.writer.now) (contents c.loop-number.writer) past (c.loop-number.invariant f is)
