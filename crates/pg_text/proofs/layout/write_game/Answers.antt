use Rattle.pg_text.proofs.Common.{arith, nat_tests}
use Rattle.pg_text.proofs.Printing.{line_push, game_written}
use Rattle.pg_text.proofs.layout.write_game.Goals as goal

pub loop-v-preserved : goal.loop-v-preserved
loop-v-preserved g c = line_push (g.W.Write.contents c.write_all-2.new.self) (g.W.Write.contents c.loop-v.out)
    (g.W.Write.contents c.write_line.new.out) c.args.game.now c.loop-v.v (omega arith) c.loop-v.invariant c.in_ok-write_line.ensures

pub returns-clause-bytes : goal.returns-clause-bytes
returns-clause-bytes g c = grind (arith, nat_tests, game_written (g.W.Write.contents c.args.out.now) (g.W.Write.contents c.write_all.new.self) (g.W.Write.contents c.write_number.new.out) (g.W.Write.contents c.write_all-2.new.self) (g.W.Write.contents c.loop-v.out) c.args.game.now c.len-len.result c.identifier.result c.loop-v.v c.len-len.ensures.value c.identifier.ensures c.loop-v-test.false c.in_ok-write_all.ensures.bytes c.in_ok-write_number.ensures c.in_ok-write_all-2.ensures.bytes c.loop-v.invariant)
