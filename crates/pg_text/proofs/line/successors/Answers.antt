use Rattle.pg_text.proofs.Common.{◌∙◌, ap, Bor, ℕ, List, Option, Ok, err_from_is_err_and, further_seen, numbers_at, successors_at}
use Rattle.pg_text.proofs.Parts.{further_shrinks}
use Rattle.pg_text.proofs.Counting.{first_gathered, one_gathered, all_gathered, none_gathered}
use Rattle.pg_text.proofs.line.successors.Goals as goal

pub successors-init : goal.successors-init
successors-init c = rw (c.in_ok-push.ensures.items, c.clear.ensures.items)
    (first_gathered c.args.bytes.now c.in_ok-first.first c.in_ok-first.rest.now c.in_ok-first.ensures)

pub returns-in_err-number : goal.returns-in_err-number
unfolding successors_at
returns-in_err-number c =
    let p = err_from_is_err_and c.from_residual-in_err-number.result c.from_residual-in_err-number.ensures.1 in
    rw (p.1, p.2) (none_gathered c.successors.list.items c.successors.rest.now c.in_err-number.field-0.0
    (numbers_at c.args.bytes.now) c.in_err-number.ensures c.successors.invariant)

pub successors-smaller : goal.successors-smaller
successors-smaller c =
    further_shrinks.shorter c.successors.rest.now c.in-Some.number c.in-Some.after.now
    (c.in_ok-number.ensures ∙ ap (λ (o : Option (ℕ × Bor (List ℕ))). Ok (further_seen c.successors.rest.now o)) c.in-Some.is)

pub successors-preserved : goal.successors-preserved
successors-preserved c =
    rw c.in_ok-push-in-Some.ensures.items
    (one_gathered c.successors.list.items c.make_room.new.list.items c.successors.rest.now c.in-Some.number c.in-Some.after.now
    (numbers_at c.args.bytes.now) c.make_room.ensures
    (c.in_ok-number.ensures ∙ ap (λ (o : Option (ℕ × Bor (List ℕ))). Ok (further_seen c.successors.rest.now o)) c.in-Some.is) c.successors.invariant)

pub returns-in-None : goal.returns-in-None
unfolding successors_at
returns-in-None c =
    all_gathered c.successors.list.items c.successors.rest.now tt c.successors.rest.now (numbers_at c.args.bytes.now)
    (c.in_ok-number.ensures ∙ ap (λ (o : Option (ℕ × Bor (List ℕ))). Ok (further_seen c.successors.rest.now o)) c.in-None.is) c.successors.invariant
