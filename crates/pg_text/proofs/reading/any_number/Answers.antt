use Rattle.pg_text.proofs.Common.{◌≡◌, ◌≤◌, length, get_or, false, ◌∙◌, ap, sym, arith, nat_tests, is_digit}
use Rattle.pg_text.proofs.Steps.{err}
use Rattle.pg_text.proofs.FirstBytes.{natural_of_digits, natural_of_others}
use Rattle.pg_text.proofs.reading.any_number.Goals as goal
use Rattle.pg_text.proofs.reading.any_number.Goals.{in_default-via-then-front-lt1, in_default-via-in-len1-up+else-is_digit}

pub returns-in-len1-up : goal.returns-in-len1-up
returns-in-len1-up c = grind (
  arith,
  nat_tests,
  natural_of_digits c.digits.result c.args.bytes.now c.after_space-front.result.now c.after_space-front.ensures c.in-len1-up.len_at_least
      (cc) c.digits.ensures.token c.digits.ensures.fault,
)

pub returns-in_default : goal.returns-in_default
returns-in_default c =
    let front = c.after_space-front.result.now in
    let other : 1 ≤ length front → is_digit (get_or front 0 0) ≡ false =
    λ some. elim c.in_default.branch [
      | in_default-via-then-front-lt1 w ↦ absurd (grind arith)
      | in_default-via-in-len1-up+else-is_digit w ↦ cc
    ] in
    natural_of_others c.args.bytes.now front c.after_space-front.ensures other ∙ ap err (sym c.misplaced.ensures)
