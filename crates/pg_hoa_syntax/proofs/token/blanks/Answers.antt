use Rattle.pg_hoa_syntax.proofs.Common.{◌≡◌, ◌∙◌, sym, ap, Some, Option, ℕ, List, arith, nat_tests, err_from_is_err_and, option_map, gap_step}
use Rattle.std.specs.Borrow.{Bor}
use Rattle.pg_hoa_syntax.proofs.Gaps.{gap_takes, gap_next, gap_ends, gap_fails}
use Rattle.pg_hoa_syntax.proofs.token.blanks.Goals as goal

pub returns-in_err-blank : goal.returns-in_err-blank
returns-in_err-blank c = grind (
  arith,
  nat_tests,
  err_from_is_err_and c.from_residual.result c.from_residual.ensures.1,
  gap_fails c.in_err-blank.field-0.0 c.bytes.deep c.bytes.rest.now c.in_err-blank.ensures,
)

pub returns-in-None : goal.returns-in-None
returns-in-None c =
    sym c.bytes.invariant.rest ∙ gap_ends c.bytes.deep c.bytes.rest.now
    (c.in_ok-blank.ensures ∙ ap (λ (o : Option (ℕ × Bor (List ℕ))). Some (option_map (λ y. (y.0, y.1.now)) o)) c.in-None.is)

pub bytes-smaller : goal.bytes-smaller
bytes-smaller c =
    (gap_takes c.bytes.deep c.bytes.rest.now (c.in-Some.more, c.in-Some.after.now)
    (c.in_ok-blank.ensures ∙ ap (λ (o : Option (ℕ × Bor (List ℕ))). Some (option_map (λ y. (y.0, y.1.now)) o)) c.in-Some.is)).shorter

pub bytes-preserved : goal.bytes-preserved
bytes-preserved c =
    let e : gap_step c.bytes.deep c.bytes.rest.now ≡ Some (Some (c.in-Some.more, c.in-Some.after.now)) = c.in_ok-blank.ensures
    ∙ ap (λ (o : Option (ℕ × Bor (List ℕ))). Some (option_map (λ y. (y.0, y.1.now)) o)) c.in-Some.is in
    record {
      rest = sym (gap_next c.bytes.deep c.bytes.rest.now (c.in-Some.more, c.in-Some.after.now) e) ∙ c.bytes.invariant.rest;
      few = (gap_takes c.bytes.deep c.bytes.rest.now (c.in-Some.more, c.in-Some.after.now) e).few c.bytes.invariant.few;
    }
