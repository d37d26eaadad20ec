use Rattle.pg_cli_command.proofs.Common.{take, flat_map, Appends}
use Rattle.pg_cli_command.specs.Verifying.{letter_line}
use Rattle.pg_cli_command.proofs.verify.write_letters.Given as goal

abbrev pub invariant-loop-letter : goal.invariant-loop-letter
invariant-loop-letter g l =
    let contents = g.W.Write.contents in
    Appends (contents l.fn.writer) (contents l.writer) (flat_map (letter_line l.given l.tied) (take l.letter-index l.letters))
