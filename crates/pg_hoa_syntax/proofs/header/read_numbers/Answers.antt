use Rattle.pg_hoa_syntax.proofs.Common.{sym, map, List, ℕ, err_from_is_err_and, option_map, lex, lexeme}
use Rattle.pg_hoa_syntax.proofs.HeaderTurns.{none_noted, one_noted, all_noted, noted_fail, number_taken}
use Rattle.pg_hoa_syntax.proofs.header.read_numbers.Goals as goal

abbrev kept : List (ℕ × ℕ) → List ℕ
kept numbers = map (λ (y : ℕ × ℕ). y.0) numbers

pub numbers-init : goal.numbers-init
numbers-init c = rw c.new-numbers.ensures.items (none_noted (lex c.args.bytes.now))

pub returns-in_err-found : goal.returns-in_err-found
returns-in_err-found c =
    let p = err_from_is_err_and c.from_residual.result c.from_residual.ensures.1 in
    rw (p.1, p.2) (noted_fail c.in_err-found.field-0.0 (kept c.numbers.numbers.items) (lex c.numbers.rest.now)
    (lex c.args.bytes.now) c.numbers.invariant c.in_err-found.ensures)

pub numbers-smaller : goal.numbers-smaller
numbers-smaller c =
    number_taken (lex c.numbers.rest.now) (lex c.in_ok-found.after.now)
    (option_map lexeme c.in_ok-found.found) c.in-Some.n c.in_ok-found.ensures (sym c.in-Some.ensures)

pub numbers-preserved : goal.numbers-preserved
numbers-preserved c =
    one_noted (kept c.numbers.numbers.items) (kept c.note.new.numbers.items) (lex c.numbers.rest.now) (lex c.in_ok-found.after.now)
    (lex c.args.bytes.now) (option_map lexeme c.in_ok-found.found) c.in-Some.n c.numbers.invariant c.in_ok-found.ensures
    (sym c.in-Some.ensures) c.in_ok-note-in-Some.ensures

pub returns-in-None : goal.returns-in-None
returns-in-None c =
    all_noted (kept c.numbers.numbers.items) (lex c.numbers.rest.now) (lex c.in_ok-found.after.now) (lex c.args.bytes.now)
    (option_map lexeme c.in_ok-found.found) c.numbers.invariant c.in_ok-found.ensures (sym c.in-None.ensures)
