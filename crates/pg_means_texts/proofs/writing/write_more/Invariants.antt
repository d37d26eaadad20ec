use Rattle.std.proofs.Common.{drop}
use Rattle.pg_means_texts.proofs.Written.{Leaves, more, texts}
use Rattle.pg_means_texts.proofs.writing.write_more.Given as goal

abbrev pub invariant-loop-name : goal.invariant-loop-name
invariant-loop-name g l =
    let contents = g.W.Write.contents in
    Leaves (contents l.fn.writer) (contents l.writer) (more (drop l.name-index (texts l.names)) l.rest) (more (texts l.names) l.letter)
