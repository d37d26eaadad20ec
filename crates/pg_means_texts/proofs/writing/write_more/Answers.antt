use Rattle.std.proofs.Common.{List, ℕ, subst}
use Rattle.std.specs.Io.KnownBytes.{Appends}
use Rattle.pg_means_texts.proofs.Written.{leaves_less, more, marked, texts}
use Rattle.pg_means_texts.proofs.writing.write_more.Goals as goal

pub loop-name-preserved : goal.loop-name-preserved
loop-name-preserved g c =
    let contents = g.W.Write.contents in
    let wrote = subst (λ (l : List ℕ). Appends (contents c.loop-name.writer) (contents c.write_marked.new.writer) (marked c.loop-name.rest l))
    c.deref.ensures.value c.in_ok-write_marked.ensures in
    leaves_less c.args.names.now c.loop-name.name-index c.loop-name.rest c.name-item.result (contents c.args.writer.now) (contents c.loop-name.writer)
    (contents c.write_marked.new.writer) (more (texts c.args.names.now) c.args.letter) c.loop-name-test.true c.name-item.is c.loop-name.invariant wrote
