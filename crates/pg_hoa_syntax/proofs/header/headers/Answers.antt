use Rattle.pg_hoa_syntax.proofs.Common.{◌≡◌, ◌∙◌, ap, sym, Option, Some, None, ℕ, List, refl, Bor, arith, nat_tests, err_from_is_err_and}
use Rattle.pg_hoa_syntax.proofs.Common.{option_map, HoaToken, Lexeme, lex, lexeme, first, head_in}
use Rattle.pg_hoa_syntax.specs.declared.token.HoaToken.TheVariants as tokens
use Rattle.pg_hoa_syntax.proofs.HeaderSteps.{IsElse, headers_fail, headers_end, headers_more, header_fails, fewer, headers_refused}
use Rattle.pg_hoa_syntax.proofs.header.headers.Goals as goal

-- the token that was found
found_token : (found : Option HoaToken) (token same : HoaToken) (ts after : List Lexeme) → first ts ≡ Some (option_map lexeme found, after)
    → found ≡ Some token → token ≡ same → first ts ≡ Some (Some (lexeme same), after)
found_token found token same ts after e is t = e ∙ ap (λ (o : Option HoaToken). Some (option_map lexeme o, after))
    (is ∙ ap (λ (u : HoaToken). Some u) t)

is_else : (token : HoaToken) → ((name : Bor (List ℕ)) → token ≡ tokens.Header name → ⊥) → (token ≡ tokens.Body → ⊥)
    → IsElse (Some (lexeme token))
is_else (tokens.Header name) no_header no_body = absurd (no_header name refl)
is_else tokens.Body no_header no_body = absurd (no_body refl)
is_else _ no_header no_body = tt

pub returns-in_err-found : goal.returns-in_err-found
returns-in_err-found c = grind (
  arith,
  nat_tests,
  err_from_is_err_and c.from_residual.result c.from_residual.ensures.1,
  headers_fail c.in_err-found.field-0.0 (head_in c.headers.head) (lex c.headers.rest.now) c.in_err-found.ensures,
)

pub returns-in-Body : goal.returns-in-Body
returns-in-Body c =
    let b = found_token c.in_ok-found.found c.in-Some.token tokens.Body (lex c.headers.rest.now) (lex c.in_ok-found.after.now)
    c.in_ok-found.ensures c.in-Some.is c.in-Body.is in
    sym c.headers.invariant ∙ headers_end (head_in c.headers.head) (lex c.headers.rest.now) (lex c.in_ok-found.after.now) b

pub returns-in_err-rest-in-Header : goal.returns-in_err-rest-in-Header
returns-in_err-rest-in-Header c =
    let p = err_from_is_err_and c.from_residual-in_err-rest-in-Header.result c.from_residual-in_err-rest-in-Header.ensures.1 in
    let b = found_token c.in_ok-found.found c.in-Some.token (tokens.Header c.in-Header.name) (lex c.headers.rest.now)
    (lex c.in_ok-found.after.now) c.in_ok-found.ensures c.in-Some.is c.in-Header.is in
    rw (p.1, p.2, ← c.headers.invariant) (header_fails c.in_err-rest-in-Header.field-0.0 (head_in c.headers.head) c.in-Header.name.now
    (lex c.headers.rest.now) (lex c.in_ok-found.after.now) b c.in_err-rest-in-Header.ensures)

pub headers-smaller : goal.headers-smaller
headers-smaller c =
    let b = found_token c.in_ok-found.found c.in-Some.token (tokens.Header c.in-Header.name) (lex c.headers.rest.now)
    (lex c.in_ok-found.after.now) c.in_ok-found.ensures c.in-Some.is c.in-Header.is in
    fewer (head_in c.headers.head) c.in-Header.name.now (lex c.headers.rest.now) (lex c.in_ok-found.after.now)
    (head_in c.header.new.head, lex c.in_ok-rest-in-Header.rest.now) b c.in_ok-rest-in-Header.ensures

pub headers-preserved : goal.headers-preserved
headers-preserved c =
    let b = found_token c.in_ok-found.found c.in-Some.token (tokens.Header c.in-Header.name) (lex c.headers.rest.now)
    (lex c.in_ok-found.after.now) c.in_ok-found.ensures c.in-Some.is c.in-Header.is in
    sym (headers_more (head_in c.headers.head) c.in-Header.name.now (lex c.headers.rest.now) (lex c.in_ok-found.after.now)
    (head_in c.header.new.head, lex c.in_ok-rest-in-Header.rest.now) b c.in_ok-rest-in-Header.ensures) ∙ c.headers.invariant

pub returns-in_default : goal.returns-in_default
returns-in_default c =
    let t = found_token c.in_ok-found.found c.in-Some.token c.in-Some.token (lex c.headers.rest.now) (lex c.in_ok-found.after.now)
    c.in_ok-found.ensures c.in-Some.is refl in
    sym c.headers.invariant ∙ headers_refused (head_in c.headers.head) (lex c.headers.rest.now) (lex c.in_ok-found.after.now)
    (Some (lexeme c.in-Some.token)) t (is_else c.in-Some.token c.in_default.not-Header c.in_default.not-Body)

pub returns-in-None : goal.returns-in-None
returns-in-None c =
    sym c.headers.invariant ∙ headers_refused (head_in c.headers.head) (lex c.headers.rest.now) (lex c.in_ok-found.after.now) None
    (c.in_ok-found.ensures ∙ ap (λ (o : Option HoaToken). Some (option_map lexeme o, lex c.in_ok-found.after.now)) c.in-None.is) tt
