use Rattle.pg_text.proofs.Common.{◌≡◌, ◌≤◌, length, get_or, false, sym, refl, arith, nat_tests, is_digit}
use Rattle.pg_text.proofs.Numbers.{number_over, number_ends, reads_digit}
use Rattle.pg_text.proofs.tokens.digits.Goals as goal
use Rattle.pg_text.proofs.tokens.digits.Goals.{in_default-via-then-rest-lt1, in_default-via-in-len1-up+else-is_digit}

pub digits-init : goal.digits-init
digits-init c = record { small = omega arith; reading = record { whole = refl; behind = refl } }

pub returns-then-value-from-clause-token : goal.returns-then-value-from-clause-token
returns-then-value-from-clause-token c =
    let r = reads_digit c.args.bytes.now c.digits.value c.digits.rest.now c.in-len1-up.len_at_least (cc) c.digits.invariant.reading in
    sym (number_over c.args.bytes.now _ _ (omega arith) r)

pub digits-preserved : goal.digits-preserved
digits-preserved c = grind (
  arith,
  nat_tests,
  reads_digit c.args.bytes.now c.digits.value c.digits.rest.now c.in-len1-up.len_at_least
      (cc) c.digits.invariant.reading,
)

pub returns-in_default-clause-token : goal.returns-in_default-clause-token
returns-in_default-clause-token c =
    let ends : 1 ≤ length c.digits.rest.now → is_digit (get_or c.digits.rest.now 0 0) ≡ false =
    λ some. elim c.in_default.branch
    [ in_default-via-then-rest-lt1 w ↦ absurd (grind arith) | in_default-via-in-len1-up+else-is_digit w ↦ cc ] in
    sym (number_ends c.args.bytes.now c.digits.value c.digits.rest.now ends c.digits.invariant.small c.digits.invariant.reading)
