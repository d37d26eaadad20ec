use Rattle.pg_cli_command.proofs.Common.{take, flat_map, Appends}
use Rattle.pg_cli_command.specs.Verifying.{bit_of, bit_text}
use Rattle.pg_cli_command.proofs.verify.write_letter.Given as goal

abbrev pub invariant-loop-literal : goal.invariant-loop-literal
invariant-loop-literal g l =
    let contents = g.W.Write.contents in
    Appends (contents l.fn.writer) (contents l.writer) (flat_map (λ literal. bit_text (bit_of l.tied l.letter literal)) (take l.literal-index l.given))
