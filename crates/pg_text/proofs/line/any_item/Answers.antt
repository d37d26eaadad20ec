use Rattle.pg_text.proofs.Common.{ℕ, List, ◌∙◌, ap, arith, err_from_is_err_and, Line, ◌>>=◌, Read, item}
use Rattle.pg_text.proofs.Steps.{ok}
use Rattle.pg_text.proofs.FirstBytes.{item_of_none, item_of_fault, item_of_line}
use Rattle.pg_text.proofs.Counting.{counted_item, counted_item_of_line, counted_item_fails}
use Rattle.pg_text.proofs.line.any_item.Goals as goal

pub returns-then-is_empty : goal.returns-then-is_empty
returns-then-is_empty c = counted_item c.args.bytes.now _
    (item_of_none c.args.bytes.now c.after_space-front.result.now c.after_space-front.ensures (grind arith))

pub returns-in_err-identifier : goal.returns-in_err-identifier
returns-in_err-identifier c =
    let p = err_from_is_err_and c.from_residual.result c.from_residual.ensures.1 in
    let front = c.after_space-front.result.now in
    rw (p.1, p.2) (counted_item c.args.bytes.now _ (item_of_fault c.args.bytes.now front _ c.after_space-front.ensures
    (grind arith) c.in_err-identifier.ensures))

pub returns-in_err-line : goal.returns-in_err-line
returns-in_err-line c =
    let p = err_from_is_err_and c.from_residual-in_err-line.result c.from_residual-in_err-line.ensures.1 in
    let front = c.after_space-front.result.now in
    let n = c.in_ok-identifier.identifier in
    let rest = c.in_ok-identifier.rest.now in
    let line = item_of_line c.args.bytes.now front n rest c.after_space-front.ensures (grind arith) c.in_ok-identifier.ensures in
    rw (p.1, p.2) (counted_item_fails c.in_err-line.field-0.0 c.args.bytes.now n rest line c.in_err-line.ensures)

pub returns : goal.returns
returns c =
    let front = c.after_space-front.result.now in
    let n = c.in_ok-identifier.identifier in
    let rest = c.in_ok-identifier.rest.now in
    let line = item_of_line c.args.bytes.now front n rest c.after_space-front.ensures (grind arith) c.in_ok-identifier.ensures in
    counted_item_of_line c.args.bytes.now n rest line ∙ ap (λ (r : Read (Line × List ℕ)). r >>= λ l. ok (item l.0, l.1)) c.in_ok-line.ensures
