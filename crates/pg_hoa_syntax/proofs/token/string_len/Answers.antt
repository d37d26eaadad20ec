use Rattle.pg_hoa_syntax.proofs.Common.{◌≡◌, ◌∙◌, ap, sym, Some, None, Option, ℕ, List, Bor, ◌+◌, arith, option_map, character_at, string_len}
use Rattle.pg_hoa_syntax.proofs.Strings.{further, further_more, character_takes, string_fails, string_ends}
use Rattle.pg_hoa_syntax.proofs.token.string_len.Goals as goal

zero_before : (n : ℕ) → n ≡ 0 + n
zero_before n = omega arith

pub returns-in-None-clause-value : goal.returns-in-None-clause-value
returns-in-None-clause-value c = sym (ap (further c.bytes.len) (string_fails c.bytes.rest.now (sym c.in-None.ensures)))
    ∙ c.bytes.invariant.all

pub returns-in-Some-None-clause-value : goal.returns-in-Some-None-clause-value
returns-in-Some-None-clause-value c =
    let e : character_at c.bytes.rest.now ≡ Some None = sym c.in-Some-None.ensures
    ∙ ap (λ (o : Option (ℕ × Bor (List ℕ))). Some (option_map (λ y. (y.0, y.1.now)) o)) c.in-Some-None.field-0-is in
    ap (λ (n : ℕ). Some n) (zero_before c.bytes.len) ∙ sym (ap (further c.bytes.len) (string_ends c.bytes.rest.now e).0)
    ∙ c.bytes.invariant.all

pub returns-in-Some-None-clause-within : goal.returns-in-Some-None-clause-within
returns-in-Some-None-clause-within c =
    let e : character_at c.bytes.rest.now ≡ Some None = sym c.in-Some-None.ensures
    ∙ ap (λ (o : Option (ℕ × Bor (List ℕ))). Some (option_map (λ y. (y.0, y.1.now)) o)) c.in-Some-None.field-0-is in
    omega (arith, (string_ends c.bytes.rest.now e).1, c.bytes.invariant.len)

pub overflow_add-len : goal.overflow_add-len
overflow_add-len c =
    let e : character_at c.bytes.rest.now ≡ Some (Some (c.in-Some-Some.taken, c.in-Some-Some.after.now)) = sym c.in-Some-Some.ensures
    ∙ ap (λ (o : Option (ℕ × Bor (List ℕ))). Some (option_map (λ y. (y.0, y.1.now)) o)) c.in-Some-Some.field-0-is in
    let t = character_takes c.bytes.rest.now (c.in-Some-Some.taken, c.in-Some-Some.after.now) e in
    omega (arith, t.len, c.bytes.invariant.len)

pub bytes-smaller : goal.bytes-smaller
bytes-smaller c =
    let e : character_at c.bytes.rest.now ≡ Some (Some (c.in-Some-Some.taken, c.in-Some-Some.after.now)) = sym c.in-Some-Some.ensures
    ∙ ap (λ (o : Option (ℕ × Bor (List ℕ))). Some (option_map (λ y. (y.0, y.1.now)) o)) c.in-Some-Some.field-0-is in
    let t = character_takes c.bytes.rest.now (c.in-Some-Some.taken, c.in-Some-Some.after.now) e in
    omega (arith, t.len, t.some_bytes)

pub bytes-preserved : goal.bytes-preserved
bytes-preserved c =
    let e : character_at c.bytes.rest.now ≡ Some (Some (c.in-Some-Some.taken, c.in-Some-Some.after.now)) = sym c.in-Some-Some.ensures
    ∙ ap (λ (o : Option (ℕ × Bor (List ℕ))). Some (option_map (λ y. (y.0, y.1.now)) o)) c.in-Some-Some.field-0-is in
    let t = character_takes c.bytes.rest.now (c.in-Some-Some.taken, c.in-Some-Some.after.now) e in
    record {
      all = sym (further_more c.bytes.len c.in-Some-Some.taken (string_len c.in-Some-Some.after.now))
          ∙ sym (ap (further c.bytes.len) t.counted) ∙ c.bytes.invariant.all;
      len = omega (arith, t.len, c.bytes.invariant.len);
    }
