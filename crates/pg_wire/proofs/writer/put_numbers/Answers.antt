use Rattle.pg_wire.proofs.Common.{◌∙◌, take, flat_map, word}
use Rattle.pg_wire.proofs.Buffers.{extends_by, one_word}
use Rattle.pg_wire.proofs.writer.put_numbers.Goals as goal

pub loop-n-preserved : goal.loop-n-preserved
loop-n-preserved c =
    one_word c.args.numbers.now c.args.out.now.items c.loop-n.out.items c.put_word.new.out.items c.loop-n.n-index c.loop-n-test.true c.loop-n.invariant
    c.in_ok-put_word.ensures.ok

pub returns-in_err-put_word-clause-kept : goal.returns-in_err-put_word-clause-kept
returns-in_err-put_word-clause-kept c =
    extends_by c.args.out.now.items c.put_word.new.out.items (flat_map word (take c.loop-n.n-index c.args.numbers.now))
    (c.in_err-put_word.ensures.err ∙ c.loop-n.invariant)

pub returns-clause-kept : goal.returns-clause-kept
returns-clause-kept c = extends_by c.args.out.now.items c.loop-n.out.items (flat_map word (take c.loop-n.n-index c.args.numbers.now)) c.loop-n.invariant
