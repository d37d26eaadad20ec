use Rattle.pg_text.proofs.Common.{◌≡◌, ℕ, ◌+◌, ◌-◌, ◌*◌, List, Ok, length, take, drop, ◌∙◌, ap, sym, subst, arith, take_rest, drop-drop}
use Rattle.pg_text.proofs.Common.{after_space, natural_at}
use Rattle.pg_text.proofs.Numbers.{IsReading, reads_first, reads_at, ends_at, few_are_small, one_more_is_small}
use Rattle.pg_text.proofs.FirstBytes.{natural_of_front}
use Rattle.pg_text.proofs.tokens.short_number.Goals as goal

abbrev front_of : List ℕ → ℕ → List ℕ
front_of bytes blank = take (length bytes - blank) (drop blank bytes)

pub loop-i-init : goal.loop-i-init
loop-i-init c =
    let front = front_of c.args.bytes.now c.blank-blank.result in
    let digit = c.digit-value.ensures.digit (omega arith) in
    record {
      small = omega arith;
      reading = subst (λ (value : ℕ). IsReading front value (drop 1 front)) (sym digit.1) (reads_first front (omega arith) digit.0);
    }

pub overflow_mul-value : goal.overflow_mul-value
overflow_mul-value c = omega (arith, few_are_small c.loop-i.value c.loop-i.i c.loop-i.invariant.small (omega arith))

pub overflow_add-value : goal.overflow_add-value
overflow_add-value c = omega (arith, few_are_small c.loop-i.value c.loop-i.i c.loop-i.invariant.small (omega arith))

pub returns-then-next-gt9-clause-number : goal.returns-then-next-gt9-clause-number
returns-then-next-gt9-clause-number c =
    let bytes = c.args.bytes.now in
    let blank = c.blank-blank.result in
    let front = front_of bytes blank in
    let i = c.loop-i.i in
    let value = c.loop-i.value in
    let few = few_are_small value i c.loop-i.invariant.small (omega arith) in
    let number = ends_at front value i (omega arith) (c.digit-next.ensures.other (omega arith)) (omega arith) c.loop-i.invariant.reading in
    let first = (c.digit-value.ensures.digit (omega arith)).0 in
    let same : after_space front ≡ after_space bytes = ap after_space (take_rest bytes blank) ∙ c.blank-blank.ensures.same in
    let behind : drop i front ≡ drop (blank + i) bytes = ap (drop i) (take_rest bytes blank) ∙ drop-drop i blank bytes in
    λ _. subst (λ (rest : List ℕ). natural_at bytes ≡ Ok (value, rest)) behind (natural_of_front bytes front value (drop i front) same (omega arith) first number)

pub loop-i-preserved : goal.loop-i-preserved
loop-i-preserved c =
    let front = front_of c.args.bytes.now c.blank-blank.result in
    let i = c.loop-i.i in
    let digit = c.digit-next.ensures.digit (omega arith) in
    record {
      small = one_more_is_small c.loop-i.value i c.digit-next.result c.loop-i.invariant.small (omega arith);
      reading =
          subst (λ (n : ℕ). IsReading front (10 * c.loop-i.value + n) (drop (i + 1) front)) (sym digit.1)
          (reads_at front c.loop-i.value i (omega arith) digit.0 c.loop-i.invariant.reading);
    }
