use Rattle.pg_text.proofs.Common.{◌∙◌, ap, ℕ, List, Option, Ok, Bor, after_space, further_seen}
use Rattle.pg_text.proofs.FirstBytes.{further_of_semicolon}
use Rattle.pg_text.proofs.line.is_end.Goals as goal

pub returns-in-Some : goal.returns-in-Some
returns-in-Some c = λ _. further_of_semicolon c.args.bytes.now c.in-Some.field-0.now (ap after_space c.in-Some.ensures)

pub returns-in-Ok-None : goal.returns-in-Ok-None
returns-in-Ok-None c =
    λ _. c.in-Ok-None.ensures ∙ ap (λ (o : Option (ℕ × Bor (List ℕ))). Ok (further_seen c.args.bytes.now o)) c.in-Ok-None.field-0-is
