use Rattle.std.proofs.Common.{◌≡◌, ◌<◌, ◌≤◌, length, arith}
use Rattle.pg_cli_command.proofs.Writing.{written_more, written_all}
use Rattle.pg_cli_command.proofs.measure.write_measures.Goals as goal

pub loop-number-preserved : goal.loop-number-preserved
loop-number-preserved g c =
    let contents = g.W.Write.contents in
    let whole : c.len-number-end.result ≡ length c.args.game.now = c.len-number-end.ensures.value in
    let within : c.loop-number.number < c.len-number-end.result = c.loop-number-test.true in
    written_more c.args.game.now (g.M.Measures.map c.args.map.now).measures c.loop-number.number c.identifier.result _
    (contents c.args.writer.now) (contents c.loop-number.writer) (contents c.write_measure_line.new.writer)
    (omega arith) c.requires.size c.identifier.ensures c.row.ensures c.loop-number.invariant c.in_ok-write_measure_line.ensures

pub returns : goal.returns
returns g c =
    let contents = g.W.Write.contents in
    let whole : c.len-number-end.result ≡ length c.args.game.now = c.len-number-end.ensures.value in
    let past : c.len-number-end.result ≤ c.loop-number.number = c.loop-number-test.false in
    written_all c.args.game.now (g.M.Measures.map c.args.map.now).measures c.loop-number.number (contents c.args.writer.now) (contents c.loop-number.writer)
    (omega arith) c.loop-number.invariant
