-- A line that is read is spelt at the front, and a line that is spelt there is read.
use Rattle.pg_aiger_reader.proofs.Common.{◌≡◌, ◌≢◌, ℕ, suc, zero, ◌≤◌, ◌<◌, ◌^◌, Bool, true, false, List, [], ◌∷◌, ◌++◌, length}
use Rattle.pg_aiger_reader.proofs.Common.{Option, Some, None, refl, sym, ap, subst, ◌∙◌, append_assoc, arith, inl, inr, ◌>>=◌, eqb, ltb, drop}
use Rattle.pg_aiger_reader.proofs.Common.{eqb-true, ltb-true, lt-ltb, nat_tests, prefix_len, take_while, is_digit, value_of, Each, Stops}
use Rattle.pg_aiger_reader.proofs.Common.{chosen, some, some_is, none, none_is_some, run_each, run_parts, run_again, rest_again, run_some}
use Rattle.pg_aiger_reader.proofs.Common.{AllByRecursion, codes, field_at, line_at, behind_field, ended, eqb-false, eqb-suc-zero, one_more}
use Rattle.pg_aiger_reader.proofs.Common.{newline_at, and_parts, length-append, ◌&&◌, ◌==◌, ◌⊎◌}
use Rattle.std.specs.Prelude.{not}
use Rattle.pg_aiger.specs.CircuitText.{IsNumber, AreNumbers, is_inner}
use Rattle.pg_aiger_reader.specs.Texts.{HasLine, BeginsLine}

-- the end of a line, and the rest behind it
abbrev pub IsNewline : List ℕ → List ℕ → Type 0
IsNewline bytes rest = (bytes ≡ 10 ∷ rest) ⊎ (bytes ≡ 13 ∷ 10 ∷ rest)

-- what stands behind a number, the end of its line or a space, and the rest behind it
abbrev pub IsBehind : Bool → List ℕ → List ℕ → Type 0
IsBehind true bytes rest = IsNewline bytes rest
IsBehind false bytes rest = bytes ≡ 32 ∷ rest

-- a number and what stands behind it
pub record IsField (bytes : List ℕ) (n : ℕ) (last : Bool) (rest : List ℕ) : Type 0 where
  pub digits : List ℕ
  pub behind : List ℕ
  pub parts : bytes ≡ digits ++ behind
  pub mark : IsBehind last behind rest
  pub number : IsNumber digits n
  pub small : n < 2 ^ 32

-- ---- ends of lines

pub newline_found : (bytes rest : List ℕ) → newline_at bytes ≡ Some rest → IsNewline bytes rest
newline_found [] rest e = absurd (none_is_some rest e)
newline_found (b ∷ []) rest e =
    elim (chosen (eqb b 10) (some []) none (some rest) e) [
      | inl w ↦ inl (ap (λ (c : ℕ). c ∷ []) (eqb-true b 10 w.0) ∙ ap (λ (t : List ℕ). 10 ∷ t) (some_is [] rest w.1))
      | inr w ↦ absurd (none_is_some rest w.1)
    ]
newline_found (b ∷ c ∷ others) rest e =
    elim (chosen (eqb b 10) (some (c ∷ others)) _ (some rest) e) [
      | inl w ↦ inl (ap (λ (d : ℕ). d ∷ c ∷ others) (eqb-true b 10 w.0) ∙ ap (λ (t : List ℕ). 10 ∷ t) (some_is (c ∷ others) rest w.1))
      | inr v ↦ elim (chosen (eqb b 13 && eqb c 10) (some others) none (some rest) v.1) [
        | inl w ↦
            let both = and_parts (eqb b 13) (eqb c 10) w.0 in
            inr (ap (λ (d : ℕ). d ∷ c ∷ others) (eqb-true b 13 both.0) ∙ ap (λ (d : ℕ). 13 ∷ d ∷ others) (eqb-true c 10 both.1)
            ∙ ap (λ (t : List ℕ). 13 ∷ 10 ∷ t) (some_is others rest w.1))
        | inr w ↦ absurd (none_is_some rest w.1)
      ]
    ]

pub newline_only : (bytes rest : List ℕ) → IsNewline bytes rest → newline_at bytes ≡ Some rest
newline_only bytes [] (inl e) = rw e refl
newline_only bytes (b ∷ rest) (inl e) = rw e refl
newline_only bytes rest (inr e) = rw e refl

pub each_append : (test : ℕ → Bool) (xs ys : List ℕ) → Each test xs → Each test ys → Each test (xs ++ ys)
each_append test [] ys a b = b
each_append test (x ∷ xs) ys a b = (a.0, each_append test xs ys a.1 b)

pub each_right : (test : ℕ → Bool) (xs ys : List ℕ) → Each test (xs ++ ys) → Each test ys
each_right test [] ys a = a
each_right test (x ∷ xs) ys a = each_right test xs ys a.1

-- neither a newline nor a carriage return
abbrev pub is_plain : ℕ → Bool
is_plain b = is_inner b && not (b == 13)

plain_inner : (line : List ℕ) → Each is_plain line → Each is_inner line
plain_inner [] each = tt
plain_inner (b ∷ line) each = ((and_parts (is_inner b) (not (eqb b 13)) each.0).0, plain_inner line each.1)

no_return : (line : List ℕ) → Each is_plain line → (front : List ℕ) → line ≢ front ++ codes "\r"
no_return line each front e =
    let last : false ≡ true = (each_right is_plain front (codes "\r") (subst (Each is_plain) e each)).0 in absurd cc

pub line_made : (line bytes behind rest : List ℕ) → Each is_plain line → bytes ≡ line ++ behind → IsNewline behind rest → HasLine bytes line rest
line_made line bytes behind rest each parts newline = record {
  single = plain_inner line each;
  ends = elim newline [
    | inl e ↦ inr (parts ∙ ap (λ (t : List ℕ). line ++ t) e, no_return line each)
    | inr e ↦ inl (parts ∙ ap (λ (t : List ℕ). line ++ t) e)
  ];
}

pub newline_of : (bytes line rest : List ℕ) → HasLine bytes line rest → (behind : List ℕ) × (bytes ≡ line ++ behind) × IsNewline behind rest
newline_of bytes line rest has =
    elim has.ends [ inl e ↦ (13 ∷ 10 ∷ rest, e, inr refl) | inr e ↦ (10 ∷ rest, e.0, inl refl) ]

pub line_takes : (bytes line rest : List ℕ) → HasLine bytes line rest → length rest < length bytes
line_takes bytes line rest has =
    elim has.ends [
      | inl e ↦ let same = ap length e in omega (arith, same, length-append line (13 ∷ 10 ∷ rest))
      | inr e ↦ let same = ap length e.0 in omega (arith, same, length-append line (10 ∷ rest))
    ]

-- ---- a line's part behind a space

last_behind : (front line before : List ℕ) → front ++ (32 ∷ line) ≡ before ++ codes "\r" → (shorter : List ℕ) × (line ≡ shorter ++ codes "\r")
last_behind [] line [] e = absurd cc
last_behind [] line (b ∷ before) e = (before, cc)
last_behind (a ∷ []) line [] e = absurd cc
last_behind (a ∷ x ∷ front) line [] e = absurd cc
last_behind (a ∷ front) line (b ∷ before) e = last_behind front line before cc

pub longer_line : (front bytes text line rest : List ℕ) → Each is_inner front → bytes ≡ front ++ (32 ∷ text) → HasLine text line rest
    → HasLine bytes (front ++ (32 ∷ line)) rest
longer_line front bytes text line rest inner parts has = record {
  single = each_append is_inner front (32 ∷ line) inner (refl, has.single);
  ends = elim has.ends [
    | inl e ↦ inl (parts ∙ ap (λ (t : List ℕ). front ++ (32 ∷ t)) e ∙ sym (append_assoc front (32 ∷ line) (codes "\r\n" ++ rest)))
    | inr e ↦ inr (
      parts ∙ ap (λ (t : List ℕ). front ++ (32 ∷ t)) e.0 ∙ sym (append_assoc front (32 ∷ line) (codes "\n" ++ rest)),
      λ before same. let (shorter, is) = last_behind front line before same in e.1 shorter is,
    )
  ];
}

pub shorter_line : (front bytes line rest : List ℕ) → HasLine bytes (front ++ (32 ∷ line)) rest
    → (text : List ℕ) × (bytes ≡ front ++ (32 ∷ text)) × HasLine text line rest
shorter_line front bytes line rest has =
    let inner : Each is_inner (32 ∷ line) = each_right is_inner front (32 ∷ line) has.single in
    elim has.ends [
      | inl e ↦ (
        line ++ (codes "\r\n" ++ rest),
        e ∙ append_assoc front (32 ∷ line) (codes "\r\n" ++ rest),
        record { single = inner.1; ends = inl refl },
      )
      | inr e ↦ (
        line ++ (codes "\n" ++ rest),
        e.0 ∙ append_assoc front (32 ∷ line) (codes "\n" ++ rest),
        record {
          single = inner.1;
          ends = inr (
            refl,
            λ before same.
                e.1 (front ++ (32 ∷ before)) (ap (λ (t : List ℕ). front ++ (32 ∷ t)) same ∙ sym (append_assoc front (32 ∷ before) (codes "\r"))),
          );
        },
      )
    ]

-- ---- fields

abbrev pub Field : Type 0
Field = ℕ × Bool × List ℕ

ended_is : (n : ℕ) (bytes : List ℕ) (x : Field) → ended n bytes ≡ Some x → (x.0 ≡ n) × IsBehind x.1 bytes x.2
ended_is n [] x e = absurd (none_is_some x e)
ended_is n (b ∷ rest) x e =
    elim (chosen (eqb b 32) (some (n, false, rest)) _ (some x) e) [
      | inl w ↦
          let space : b ≡ 32 = eqb-true b 32 w.0 in
          subst (λ (y : Field). (y.0 ≡ n) × IsBehind y.1 (b ∷ rest) y.2) (some_is (n, false, rest) x w.1) (refl, ap (λ (c : ℕ). c ∷ rest) space)
      | inr w ↦ of_newline (newline_at (b ∷ rest)) refl w.1
    ]
  where
    of_newline : (read : Option (List ℕ)) → newline_at (b ∷ rest) ≡ read → (read >>= λ after. Some (n, true, after)) ≡ Some x
        → (x.0 ≡ n) × IsBehind x.1 (b ∷ rest) x.2
    of_newline None same e = absurd (none_is_some x e)
    of_newline (Some after) same e =
        subst (λ (y : Field). (y.0 ≡ n) × IsBehind y.1 (b ∷ rest) y.2) (some_is (n, true, after) x e) (refl, newline_found (b ∷ rest) after same)

pub field_found : (bytes : List ℕ) (x : Field) → field_at bytes ≡ Some x → IsField bytes x.0 x.1 x.2
unfolding field_at
field_found bytes x e =
    let text = take_while is_digit bytes in
    let rest = drop (prefix_len is_digit bytes) bytes in
    elim (chosen (eqb (prefix_len is_digit bytes) 0) none _ (some x) e) [
      | inl w ↦ absurd (none_is_some x w.1)
      | inr v ↦ elim (chosen (ltb (value_of text) (2 ^ 32)) (ended (value_of text) rest) none (some x) v.1) [
        | inl w ↦
            let is = ended_is (value_of text) rest x w.1 in
            record {
              digits = text;
              behind = rest;
              parts = run_parts is_digit bytes;
              mark = is.1;
              number = (run_some is_digit bytes (eqb-false _ _ v.0), run_each is_digit bytes, sym is.0);
              small = let lt : value_of text < 2 ^ 32 = ltb-true _ _ w.0 in let same : x.0 ≡ value_of text = is.0 in omega arith;
            }
        | inr w ↦ absurd (none_is_some x w.1)
      ]
    ]

mark_stops : (last : Bool) (behind rest : List ℕ) → IsBehind last behind rest → Stops is_digit behind
mark_stops true behind rest (inl e) = rw e refl
mark_stops true behind rest (inr e) = rw e refl
mark_stops false behind rest e = rw e refl

ended_again : (n : ℕ) (last : Bool) (behind rest : List ℕ) → IsBehind last behind rest → ended n behind ≡ Some (n, last, rest)
ended_again n true behind [] (inl e) = rw e refl
ended_again n true behind (b ∷ rest) (inl e) = rw e refl
ended_again n true behind rest (inr e) = rw e refl
ended_again n false behind rest e = rw e refl

no_digits : (digits rest : List ℕ) → digits ≢ [] → Each is_digit digits → eqb (prefix_len is_digit (digits ++ rest)) 0 ≡ false
no_digits [] rest full each = absurd (full refl)
no_digits (b ∷ digits) rest full each = rw (one_more is_digit b (digits ++ rest) each.0) (eqb-suc-zero _)

field_again : (digits : List ℕ) (n : ℕ) (last : Bool) (behind rest : List ℕ) → IsNumber digits n → n < 2 ^ 32 → IsBehind last behind rest
    → field_at (digits ++ behind) ≡ Some (n, last, rest)
unfolding field_at
field_again digits n last behind rest number small mark =
    let stops = mark_stops last behind rest mark in
    rw (
      no_digits digits behind number.0 number.1,
      run_again is_digit digits behind number.1 stops,
      rest_again is_digit digits behind number.1 stops,
      number.2,
      lt-ltb n (2 ^ 32) small,
    ) (ended_again n last behind rest mark)

pub field_only : (bytes : List ℕ) (n : ℕ) (last : Bool) (rest : List ℕ) → IsField bytes n last rest → field_at bytes ≡ Some (n, last, rest)
field_only bytes n last rest f = ap field_at f.parts ∙ field_again f.digits n last f.behind rest f.number f.small f.mark

-- ---- lines

digits_plain : (digits : List ℕ) → Each is_digit digits → Each is_plain digits
digits_plain [] each = tt
digits_plain (b ∷ digits) each = (grind (arith, nat_tests, each.0), digits_plain digits each.1)

pub digits_inner : (digits : List ℕ) → Each is_digit digits → Each is_inner digits
digits_inner digits each = plain_inner digits (digits_plain digits each)

-- a number and a space
pub spaced : (bytes : List ℕ) (n : ℕ) (rest : List ℕ) (f : IsField bytes n false rest) → bytes ≡ f.digits ++ (32 ∷ rest)
spaced bytes n rest f = f.parts ∙ ap (λ (t : List ℕ). f.digits ++ t) f.mark

abbrev IsLine : List ℕ → List ℕ × List ℕ → Type 0
IsLine bytes x = BeginsLine bytes x.0 x.1

last_found : (bytes : List ℕ) (n : ℕ) (rest : List ℕ) → IsField bytes n true rest → BeginsLine bytes (n ∷ []) rest
last_found bytes n rest f = record {
  line = f.digits;
  begins = line_made f.digits bytes f.behind rest (digits_plain f.digits f.number.1) f.parts f.mark;
  says = f.number;
  small = (f.small, tt);
}

more_found : (bytes : List ℕ) (n : ℕ) (after : List ℕ) (m : ℕ) (ms rest : List ℕ) → IsField bytes n false after → BeginsLine after (m ∷ ms) rest
    → BeginsLine bytes (n ∷ m ∷ ms) rest
more_found bytes n after m ms rest f l = record {
  line = f.digits ++ (codes " " ++ l.line);
  begins = longer_line f.digits bytes after l.line rest (digits_inner f.digits f.number.1) (spaced bytes n after f) l.begins;
  says = (f.digits, l.line, refl, f.number, l.says);
  small = (f.small, l.small);
}

abbrev Below : ℕ → Type 0
Below n = (after : List ℕ) (y : List ℕ × List ℕ) → line_at n after ≡ Some y → (y.0 ≢ []) × IsLine after y

pub line_found : (most : ℕ) (bytes : List ℕ) (x : List ℕ × List ℕ) → line_at most bytes ≡ Some x → (x.0 ≢ []) × IsLine bytes x
unfolding line_at
line_found zero bytes x e = absurd (none_is_some x e)
line_found (suc n) bytes x e = of_field n bytes x (λ after y same. line_found n after y same) (field_at bytes) refl e
  where
    of_rest : (n : ℕ) (bytes : List ℕ) (x : List ℕ × List ℕ) → Below n → (k : ℕ) (after : List ℕ) (read : Option (List ℕ × List ℕ)) → line_at n after ≡ read
        → IsField bytes k false after → (read >>= λ y. Some (k ∷ y.0, y.1)) ≡ Some x → (x.0 ≢ []) × IsLine bytes x
    of_rest n bytes x below k after None same f e = absurd (none_is_some x e)
    of_rest n bytes x below k after (Some ([], rest)) same f e = absurd ((below after ([], rest) same).0 refl)
    of_rest n bytes x below k after (Some (m ∷ ms, rest)) same f e =
        subst (λ (y : List ℕ × List ℕ). (y.0 ≢ []) × IsLine bytes y) (some_is (k ∷ m ∷ ms, rest) x e)
        ((λ no. cc no), more_found bytes k after m ms rest f (below after (m ∷ ms, rest) same).1)

    of_field : (n : ℕ) (bytes : List ℕ) (x : List ℕ × List ℕ) → Below n → (read : Option Field) → field_at bytes ≡ read
        → (read >>= behind_field (line_at n)) ≡ Some x → (x.0 ≢ []) × IsLine bytes x
    of_field n bytes x below None same e = absurd (none_is_some x e)
    of_field n bytes x below (Some (k, true, rest)) same e =
        subst (λ (y : List ℕ × List ℕ). (y.0 ≢ []) × IsLine bytes y) (some_is (k ∷ [], rest) x e)
        ((λ no. cc no), last_found bytes k rest (field_found bytes (k, true, rest) same))
    of_field n bytes x below (Some (k, false, after)) same e =
        of_rest n bytes x below k after (line_at n after) refl (field_found bytes (k, false, after) same) e

pub line_only : (most : ℕ) (bytes : List ℕ) (n : ℕ) (ns rest : List ℕ) → BeginsLine bytes (n ∷ ns) rest → length (n ∷ ns) ≤ most
    → line_at most bytes ≡ Some (n ∷ ns, rest)
unfolding line_at
line_only zero bytes n ns rest l few = absurd (omega arith)
line_only (suc most) bytes n [] rest l few =
    let (behind, parts, newline) = newline_of bytes l.line rest l.begins in
    let f : IsField bytes n true rest =
    record { digits = l.line; behind = behind; parts = parts; mark = newline; number = l.says; small = l.small.0 } in
    rw (field_only bytes n true rest f) refl
line_only (suc most) bytes n (m ∷ ns) rest l few =
    of_parts (λ after short. line_only most after m ns rest short (omega arith)) l.line l.begins l.says l.small
  where
    of_parts : ((after : List ℕ) → BeginsLine after (m ∷ ns) rest → line_at most after ≡ Some (m ∷ ns, rest)) → (line : List ℕ)
        → HasLine bytes line rest → AreNumbers line (n ∷ m ∷ ns) → AllByRecursion (λ k. k < 2 ^ 32) (n ∷ m ∷ ns)
        → line_at (suc most) bytes ≡ Some (n ∷ m ∷ ns, rest)
    of_parts again line has (digits, others, whole, number, says) small =
        let (after, parts, shorter) = shorter_line digits bytes others rest (subst (λ t. HasLine bytes t rest) whole has) in
        let f : IsField bytes n false after =
        record { digits = digits; behind = 32 ∷ after; parts = parts; mark = refl; number = number; small = small.0 } in
        let l : BeginsLine after (m ∷ ns) rest = record { line = others; begins = shorter; says = says; small = small.1 } in
        rw (field_only bytes n false after f, again after l) refl

-- and it has at most so many numbers
pub line_few : (most : ℕ) (bytes : List ℕ) (x : List ℕ × List ℕ) → line_at most bytes ≡ Some x → length x.0 ≤ most
unfolding line_at
line_few zero bytes x e = absurd (none_is_some x e)
line_few (suc n) bytes x e = of_field (λ after y same. line_few n after y same) (field_at bytes) e
  where
    of_rest : ((after : List ℕ) (y : List ℕ × List ℕ) → line_at n after ≡ Some y → length y.0 ≤ n) → (k : ℕ) (after : List ℕ) (read : Option (List ℕ × List ℕ)) → line_at n after ≡ read
        → (read >>= λ y. Some (k ∷ y.0, y.1)) ≡ Some x → length x.0 ≤ suc n
    of_rest again k after None same e = absurd (none_is_some x e)
    of_rest again k after (Some y) same e =
        let below = again after y same in
        subst (λ (z : List ℕ × List ℕ). length z.0 ≤ suc n) (some_is (k ∷ y.0, y.1) x e) (omega (arith, below))

    of_field : ((after : List ℕ) (y : List ℕ × List ℕ) → line_at n after ≡ Some y → length y.0 ≤ n) → (read : Option Field)
        → (read >>= behind_field (line_at n)) ≡ Some x → length x.0 ≤ suc n
    of_field again None e = absurd (none_is_some x e)
    of_field again (Some (k, true, rest)) e = subst (λ (z : List ℕ × List ℕ). length z.0 ≤ suc n) (some_is (k ∷ [], rest) x e) (omega arith)
    of_field again (Some (k, false, after)) e = of_rest again k after (line_at n after) refl e
