use Rattle.pg_hoa_syntax.proofs.Common.{◌∙◌, ap, sym, Some, Option, List, refl, arith, nat_tests, err_from_is_err_and, option_map, HoaToken, Op}
use Rattle.pg_hoa_syntax.proofs.Common.{lex, lexeme, ◌>>=◌, view, ops_at}
use Rattle.pg_hoa_syntax.proofs.Turning.{first_fails, turns, turn_fails, taken_shorter, ends_there, over_fails}
use Rattle.pg_hoa_syntax.proofs.formula.read_formula.Goals as goal

pub tokens-init : goal.tokens-init
unfolding ops_at
tokens-init c = rw (c.new.ensures.items, c.new-2.ensures.items) refl

pub returns-in_err-found : goal.returns-in_err-found
returns-in_err-found c = grind (
  arith,
  nat_tests,
  err_from_is_err_and c.from_residual.result c.from_residual.ensures.1,
  first_fails c.in_err-found.field-0.0 c.args.kind (view c.tokens.reading) (lex c.tokens.rest.now) c.in_err-found.ensures,
)

pub returns-in_err-reading-in-Some : goal.returns-in_err-reading-in-Some
returns-in_err-reading-in-Some c =
    let p = err_from_is_err_and c.from_residual-in_err-reading-in-Some.result c.from_residual-in_err-reading-in-Some.ensures.1 in
    let t = sym c.taken.ensures ∙ ap (λ (o : Option HoaToken). option_map lexeme o) c.in-Some.is in
    rw (p.1, p.2, ← c.tokens.invariant) (turn_fails c.in_err-reading-in-Some.field-0.0 c.args.kind (view c.tokens.reading)
    (lex c.tokens.rest.now) (lex c.in_ok-found.after.now) (option_map lexeme c.in_ok-found.found) (lexeme c.in-Some.token)
    c.in_ok-found.ensures t c.in_err-reading-in-Some.ensures)

pub tokens-smaller : goal.tokens-smaller
tokens-smaller c =
    let t = sym c.taken.ensures ∙ ap (λ (o : Option HoaToken). option_map lexeme o) c.in-Some.is in
    taken_shorter (view c.tokens.reading) (lex c.tokens.rest.now) (lex c.in_ok-found.after.now) (option_map lexeme c.in_ok-found.found)
    (lexeme c.in-Some.token) c.in_ok-found.ensures t

pub tokens-preserved : goal.tokens-preserved
tokens-preserved c =
    let t = sym c.taken.ensures ∙ ap (λ (o : Option HoaToken). option_map lexeme o) c.in-Some.is in
    sym (turns c.args.kind (view c.tokens.reading) (view c.in_ok-reading-in-Some.reading) (lex c.tokens.rest.now)
    (lex c.in_ok-found.after.now) (option_map lexeme c.in_ok-found.found) (lexeme c.in-Some.token) c.in_ok-found.ensures t
    c.in_ok-reading-in-Some.ensures) ∙ c.tokens.invariant

pub returns-in_err-over-in-None : goal.returns-in_err-over-in-None
returns-in_err-over-in-None c =
    let p = err_from_is_err_and c.from_residual-in_err-over-in-None.result c.from_residual-in_err-over-in-None.ensures.1 in
    let n = sym c.taken.ensures ∙ ap (λ (o : Option HoaToken). option_map lexeme o) c.in-None.is in
    rw (
      p.1,
      p.2,
      ← c.tokens.invariant,
      ends_there c.args.kind (view c.tokens.reading) (lex c.tokens.rest.now) (lex c.in_ok-found.after.now)
          (option_map lexeme c.in_ok-found.found) c.in_ok-found.ensures n,
    ) (over_fails c.in_err-over-in-None.field-0.0 (view c.tokens.reading) (lex c.tokens.rest.now) c.in_err-over-in-None.ensures)

pub returns-in-None : goal.returns-in-None
returns-in-None c =
    let n = sym c.taken.ensures ∙ ap (λ (o : Option HoaToken). option_map lexeme o) c.in-None.is in
    sym c.tokens.invariant
    ∙ ends_there c.args.kind (view c.tokens.reading) (lex c.tokens.rest.now) (lex c.in_ok-found.after.now)
    (option_map lexeme c.in_ok-found.found) c.in_ok-found.ensures n
    ∙ ap (λ (o : Option (List Op)). o >>= λ ops. Some (ops, lex c.tokens.rest.now)) c.in_ok-over-in-None.ensures
