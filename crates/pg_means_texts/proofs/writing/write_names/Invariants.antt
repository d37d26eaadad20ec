use Rattle.std.proofs.Common.{◌≡◌, drop}
use Rattle.pg_means_texts.specs.Printing.{holding}
use Rattle.pg_means_texts.proofs.Written.{texts}
use Rattle.pg_means_texts.proofs.writing.write_names.Given as goal

abbrev pub invariant-loop-place : goal.invariant-loop-place
invariant-loop-place g l =
    let contents = g.W.Write.contents in
    record {
      same : contents l.writer ≡ contents l.fn.writer;
      so : holding (texts l.names) l.letter ≡ holding (drop l.place (texts l.names)) l.rest;
    }
