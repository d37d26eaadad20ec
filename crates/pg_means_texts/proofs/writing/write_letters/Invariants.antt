use Rattle.std.proofs.Common.{map, take}
use Rattle.std.specs.List.{flat_map}
use Rattle.std.specs.Io.KnownBytes.{Appends}
use Rattle.pg_means_texts.specs.Printing.{letter_line}
use Rattle.pg_means_texts.proofs.writing.write_letters.Given as goal

abbrev pub invariant-loop-letter : goal.invariant-loop-letter
invariant-loop-letter g l =
    let contents = g.W.Write.contents in
    Appends (contents l.fn.writer) (contents l.writer) (flat_map (letter_line (map (λ v. v.items) l.names)) (take l.letter-index l.letters))
