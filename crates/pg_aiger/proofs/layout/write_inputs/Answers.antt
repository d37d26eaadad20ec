use Rattle.pg_aiger.proofs.Common.{◌+◌, ◌*◌, literal_row, literals_from}
use Rattle.pg_aiger.proofs.Printing.{row_push, literals_push}
use Rattle.pg_aiger.proofs.layout.write_inputs.Goals as goal

pub loop-input-preserved : goal.loop-input-preserved
loop-input-preserved g c =
    row_push (g.W.Write.contents c.args.out.now) (g.W.Write.contents c.loop-input.out) (g.W.Write.contents c.write_line.new.out) literal_row
    (literals_from 1 c.loop-input.input) (literals_from 1 (c.loop-input.input + 1)) (2 * (1 + c.loop-input.input))
    (literals_push 1 c.loop-input.input) c.loop-input.invariant c.in_ok-write_line.ensures
