use Rattle.pg_hoa_syntax.proofs.Common.{◌∙◌, sym, arith, nat_tests, err_from_is_err_and}
use Rattle.pg_hoa_syntax.proofs.Lexing.{gap_unread, token_unread, ended, token_read}
use Rattle.pg_hoa_syntax.proofs.token.next_token.Goals as goal

pub returns-in_err-bytes : goal.returns-in_err-bytes
returns-in_err-bytes c = grind (
  arith,
  nat_tests,
  err_from_is_err_and c.from_residual.result c.from_residual.ensures.1,
  gap_unread c.in_err-bytes.field-0.0 c.args.bytes.now c.in_err-bytes.ensures,
)

pub returns-then-is_empty : goal.returns-then-is_empty
returns-then-is_empty c =
    let z = sym c.is_empty.ensures ∙ c.if-is_empty.true in
    ended c.args.bytes.now c.in_ok-bytes.bytes.now c.in_ok-bytes.ensures z

pub returns-in_err-token : goal.returns-in_err-token
returns-in_err-token c =
    let p = err_from_is_err_and c.from_residual-in_err-token.result c.from_residual-in_err-token.ensures.1 in
    let z = sym c.is_empty.ensures ∙ c.if-is_empty.false in
    rw (p.1, p.2) (token_unread c.in_err-token.field-0.0 c.args.bytes.now c.in_ok-bytes.bytes.now c.in_ok-bytes.ensures z
    c.in_err-token.ensures)

pub returns : goal.returns
returns c =
    token_read c.args.bytes.now c.in_ok-bytes.bytes.now c.in_ok-token.token c.in_ok-token.rest.now c.in_ok-bytes.ensures
    c.in_ok-token.ensures
