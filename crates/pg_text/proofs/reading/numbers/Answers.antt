use Rattle.pg_text.proofs.Common.{◌∙◌, ap, Bor, ℕ, List, Option, Ok, err_from_is_err_and, further_seen, numbers_at}
use Rattle.pg_text.proofs.Parts.{further_shrinks, one_comes, all_came, none_comes}
use Rattle.pg_text.proofs.reading.numbers.Goals as goal

pub returns-in_err-number : goal.returns-in_err-number
returns-in_err-number c =
    let p = err_from_is_err_and c.from_residual-in_err-number.result c.from_residual-in_err-number.ensures.1 in
    rw (p.1, p.2) (none_comes c.numbers.list.items c.numbers.rest.now c.in_err-number.field-0.0
    (numbers_at c.args.bytes.now) c.in_err-number.ensures c.numbers.invariant)

pub numbers-smaller : goal.numbers-smaller
numbers-smaller c =
    further_shrinks.shorter c.numbers.rest.now c.in-Some.number c.in-Some.after.now
    (c.in_ok-number.ensures ∙ ap (λ (o : Option (ℕ × Bor (List ℕ))). Ok (further_seen c.numbers.rest.now o)) c.in-Some.is)

pub numbers-preserved : goal.numbers-preserved
numbers-preserved c =
    rw c.in_ok-push-in-Some.ensures.items
    (one_comes c.numbers.list.items c.numbers.rest.now c.in-Some.number c.in-Some.after.now (numbers_at c.args.bytes.now)
    (c.in_ok-number.ensures ∙ ap (λ (o : Option (ℕ × Bor (List ℕ))). Ok (further_seen c.numbers.rest.now o)) c.in-Some.is) c.numbers.invariant)

pub returns-in-None : goal.returns-in-None
returns-in-None c =
    all_came c.numbers.list.items c.numbers.rest.now tt c.numbers.rest.now (numbers_at c.args.bytes.now)
    (c.in_ok-number.ensures ∙ ap (λ (o : Option (ℕ × Bor (List ℕ))). Ok (further_seen c.numbers.rest.now o)) c.in-None.is) c.numbers.invariant
