use Rattle.pg_hoa_syntax.proofs.Common.{◌≡◌, ◌∙◌, ap, subst, ℕ, Option, Some, err_from_is_err_and, lex, lexeme, Fails, set_in}
use Rattle.pg_hoa_syntax.proofs.BodyTurns.{due_shorter, sets_unread, sets_fail, sets_start, sets_rise, set_kept, rising_fail, sets_over}
use Rattle.pg_hoa_syntax.proofs.body.read_sets.Goals as goal

pub numbers-init : goal.numbers-init
numbers-init c = rw c.new-numbers.ensures.items (sets_start c.args.sets (lex c.args.bytes.now))

pub returns-in_err-token : goal.returns-in_err-token
returns-in_err-token c =
    let p = err_from_is_err_and c.from_residual.result c.from_residual.ensures.1 in
    let s = c.numbers.invariant in
    rw (p.1, p.2) (rising_fail c.in_err-token.field-0.0 c.args.sets (lex c.args.bytes.now)
    (subst (Fails c.in_err-token.field-0.0) s.left
    (sets_unread c.in_err-token.field-0.0 c.args.sets s.done (lex c.numbers.rest.now) c.in_err-token.ensures)))

pub returns-in_err-set : goal.returns-in_err-set
returns-in_err-set c =
    let p = err_from_is_err_and c.from_residual-in_err-set.result c.from_residual-in_err-set.ensures.1 in
    let s = c.numbers.invariant in
    rw (p.1, p.2) (rising_fail c.in_err-set.field-0.0 c.args.sets (lex c.args.bytes.now)
    (subst (Fails c.in_err-set.field-0.0) s.left (sets_fail c.in_err-set.field-0.0 c.args.sets s.done (lex c.numbers.rest.now)
    (lex c.in_ok-token.after.now) (lexeme c.in_ok-token.token) c.in_ok-token.ensures c.in_err-set.ensures)))

pub numbers-smaller : goal.numbers-smaller
numbers-smaller c = due_shorter (lex c.numbers.rest.now) (lexeme c.in_ok-token.token, lex c.in_ok-token.after.now) c.in_ok-token.ensures

pub put-requires : goal.put-requires
put-requires c = sets_rise c.args.sets c.numbers.numbers.items (lex c.numbers.rest.now) (lex c.args.bytes.now) c.numbers.invariant

pub numbers-preserved : goal.numbers-preserved
numbers-preserved c =
    let found : set_in c.args.sets (lexeme c.in_ok-token.token) ≡ Some (Some c.in-Some.set) = c.in_ok-set.ensures
    ∙ ap (λ (o : Option ℕ). Some o) c.in-Some.is in
    set_kept c.args.sets c.numbers.numbers.items c.put.new.numbers.items (lex c.numbers.rest.now) (lex c.in_ok-token.after.now)
    (lex c.args.bytes.now) (lexeme c.in_ok-token.token) c.in-Some.set c.numbers.invariant c.in_ok-token.ensures found
    c.in_ok-put-in-Some.ensures

pub returns-in-None : goal.returns-in-None
returns-in-None c =
    sets_over c.args.sets c.numbers.numbers.items (lex c.numbers.rest.now) (lex c.in_ok-token.after.now) (lex c.args.bytes.now)
    (lexeme c.in_ok-token.token) c.numbers.invariant c.in_ok-token.ensures
    (c.in_ok-set.ensures ∙ ap (λ (o : Option ℕ). Some o) c.in-None.is)
