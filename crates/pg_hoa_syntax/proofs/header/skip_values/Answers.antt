use Rattle.pg_hoa_syntax.proofs.Common.{◌∙◌, sym, arith, nat_tests, err_from_is_err_and, option_map, lex, lexeme}
use Rattle.pg_hoa_syntax.proofs.HeaderTurns.{skipped_fail, skipped_more, skipped_end, value_taken}
use Rattle.pg_hoa_syntax.proofs.header.skip_values.Goals as goal

pub returns-in_err-found : goal.returns-in_err-found
returns-in_err-found c = grind (
  arith,
  nat_tests,
  err_from_is_err_and c.from_residual.result c.from_residual.ensures.1,
  skipped_fail c.in_err-found.field-0.0 (lex c.values.rest.now) c.in_err-found.ensures,
)

pub returns-then-not-is_value : goal.returns-then-not-is_value
returns-then-not-is_value c =
    sym c.values.invariant ∙ skipped_end (lex c.values.rest.now) (lex c.in_ok-found.after.now)
    (option_map lexeme c.in_ok-found.found) c.in_ok-found.ensures (sym c.is_value.ensures ∙ c.if-not-is_value.true)

pub values-smaller : goal.values-smaller
values-smaller c =
    value_taken (lex c.values.rest.now) (lex c.in_ok-found.after.now) (option_map lexeme c.in_ok-found.found) c.in_ok-found.ensures
    (sym c.is_value.ensures ∙ c.if-not-is_value.false)

pub values-preserved : goal.values-preserved
values-preserved c =
    sym (skipped_more (lex c.values.rest.now) (lex c.in_ok-found.after.now) (option_map lexeme c.in_ok-found.found) c.in_ok-found.ensures
    (sym c.is_value.ensures ∙ c.if-not-is_value.false)) ∙ c.values.invariant
