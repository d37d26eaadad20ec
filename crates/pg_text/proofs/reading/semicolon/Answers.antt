use Rattle.std.proofs.Common.{◌∙◌, ap, sym, refl}
use Rattle.pg_text.proofs.Steps.{err}
use Rattle.pg_text.proofs.FirstBytes.{semicolon_of_byte, semicolon_of_others}
use Rattle.pg_text.proofs.reading.semicolon.Goals as goal

pub returns-in-Some : goal.returns-in-Some
returns-in-Some c = semicolon_of_byte c.args.bytes.now c.in-Some.rest.now c.in-Some.ensures.some

pub returns-in-None : goal.returns-in-None
returns-in-None c = semicolon_of_others c.args.bytes.now (c.in-None.ensures.none refl) ∙ ap err (sym c.misplaced.ensures)
