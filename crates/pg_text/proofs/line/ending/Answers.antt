use Rattle.pg_text.proofs.Common.{◌∙◌, ap, refl, ℕ, List, err_from_is_err_and, ◌>>=◌, Read, some}
use Rattle.pg_text.proofs.Steps.{ok}
use Rattle.pg_text.proofs.FirstBytes.{named, ending_of_byte, ending_of_others}
use Rattle.pg_text.proofs.line.ending.Goals as goal

pub returns-in-Some : goal.returns-in-Some
returns-in-Some c = ending_of_byte c.args.bytes.now c.in-Some.rest.now c.in-Some.ensures.some

pub returns-in_err-name : goal.returns-in_err-name
returns-in_err-name c =
    let p = err_from_is_err_and c.from_residual.result c.from_residual.ensures.1 in
    let other = ending_of_others c.args.bytes.now (c.in_default.ensures.none refl) in
    rw (p.1, p.2) (other ∙ ap (λ (r : Read (List ℕ × List ℕ)). r >>= named) c.in_err-name.ensures)

pub returns-in_err-semicolon : goal.returns-in_err-semicolon
returns-in_err-semicolon c =
    let p = err_from_is_err_and c.from_residual-in_err-semicolon.result c.from_residual-in_err-semicolon.ensures.1 in
    let other = ending_of_others c.args.bytes.now (c.in_default.ensures.none refl) in
    let name = ap (λ (r : Read (List ℕ × List ℕ)). r >>= named) c.in_ok-name.ensures in
    rw (p.1, p.2) (other ∙ name ∙ ap (λ (r : Read (List ℕ)). r >>= λ after. ok (some c.in_ok-name.name.now, after)) c.in_err-semicolon.ensures)

pub returns : goal.returns
returns c =
    let other = ending_of_others c.args.bytes.now (c.in_default.ensures.none refl) in
    let name = ap (λ (r : Read (List ℕ × List ℕ)). r >>= named) c.in_ok-name.ensures in
    other ∙ name ∙ ap (λ (r : Read (List ℕ)). r >>= λ after. ok (some c.in_ok-name.name.now, after)) c.in_ok-semicolon.ensures
