use Rattle.pg_text.proofs.Common.{◌∙◌, refl, ap, ℕ, List, err_from_is_err_and, ◌>>=◌, Read, item}
use Rattle.pg_text.proofs.Steps.{ok}
use Rattle.pg_text.proofs.FirstBytes.{further_of_comma, further_of_semicolon, further_of_others}
use Rattle.pg_text.proofs.reading.further.Goals as goal

pub returns-in_err-natural : goal.returns-in_err-natural
returns-in_err-natural c =
    let p = err_from_is_err_and c.from_residual.result c.from_residual.ensures.1 in
    let comma = further_of_comma c.args.bytes.now c.in-Some.rest.now c.in-Some.ensures.some in
    rw (p.1, p.2) (comma ∙ ap (λ (r : Read (ℕ × List ℕ)). r >>= λ n. ok (item n.0, n.1)) c.in_err-natural.ensures)

pub returns-in-Some : goal.returns-in-Some
returns-in-Some c =
    let comma = further_of_comma c.args.bytes.now c.in-Some.rest.now c.in-Some.ensures.some in
    comma ∙ ap (λ (r : Read (ℕ × List ℕ)). r >>= λ n. ok (item n.0, n.1)) c.in_ok-natural.ensures

pub returns-in-Some-after_byte : goal.returns-in-Some-after_byte
returns-in-Some-after_byte c = further_of_semicolon c.args.bytes.now c.in-Some-after_byte.field-0.now c.in-Some-after_byte.ensures.some

pub returns-in_ok-_token-in-None : goal.returns-in_ok-_token-in-None
returns-in_ok-_token-in-None c = further_of_others c.args.bytes.now _ (c.in_default.ensures.none refl) c.in_ok-_token-in-None.ensures
