-- White space and comments: what is skipped is written, and what is written is skipped.
use Rattle.pg_hoa_syntax.proofs.Common.{◌≡◌, ℕ, zero, suc, ◌-◌, ◌<◌, Bool, true, false, eqb, ltb, List, [], ◌∷◌, ◌++◌, length, Some, None, refl}
use Rattle.pg_hoa_syntax.proofs.Common.{sym, ap, ◌∙◌, arith, inl, inr, append_assoc, add-one, length-append, nat_tests, ◌&&◌, flat_map}
use Rattle.pg_hoa_syntax.proofs.Common.{AllByRecursion, eqb-suc-zero, cases_Bool, and_parts, eqb-true, is_space, after_comments, Blank, space}
use Rattle.pg_hoa_syntax.proofs.Common.{comment, blank_bytes, IsBlank, ◌>>=◌, gap_step, gap_from, some, some_is, none_is_some}
use Rattle.pg_hoa_syntax.proofs.Steps.{bind_some}
use Rattle.pg_hoa_syntax.proofs.Gaps.{gap_next, gap_ends, gap_none}

-- ---- comments, one step at a time

abbrev opens : ℕ → ℕ → Bool
opens b c = eqb b 47 && eqb c 42

abbrev closes : ℕ → ℕ → Bool
closes b c = eqb b 42 && eqb c 47

module _ (deep b c : ℕ) (bytes : List ℕ) where
  one_opens : opens b c ≡ true → ltb (suc deep) 8192 ≡ true
      → after_comments (suc deep) (b ∷ c ∷ bytes) ≡ after_comments (suc (suc deep)) bytes
  one_opens p q = rw (p, q) refl

  one_too_deep : opens b c ≡ true → ltb (suc deep) 8192 ≡ false → after_comments (suc deep) (b ∷ c ∷ bytes) ≡ None
  one_too_deep p q = rw (p, q) refl

  one_closes : opens b c ≡ false → closes b c ≡ true → after_comments (suc deep) (b ∷ c ∷ bytes) ≡ after_comments deep bytes
  one_closes p q = rw (p, q) refl

  one_within : opens b c ≡ false → closes b c ≡ false → after_comments (suc deep) (b ∷ c ∷ bytes) ≡ after_comments (suc deep) (c ∷ bytes)
  one_within p q = rw (p, q) refl

  step_opens : opens b c ≡ true → ltb (suc deep) 8192 ≡ true → gap_step (suc deep) (b ∷ c ∷ bytes) ≡ Some (Some (suc (suc deep), bytes))
  unfolding gap_step
  step_opens p q = rw (eqb-suc-zero deep, p, q, add-one) refl

  step_too_deep : opens b c ≡ true → ltb (suc deep) 8192 ≡ false → gap_step (suc deep) (b ∷ c ∷ bytes) ≡ None
  unfolding gap_step
  step_too_deep p q = rw (eqb-suc-zero deep, p, q) refl

  step_closes : opens b c ≡ false → closes b c ≡ true → gap_step (suc deep) (b ∷ c ∷ bytes) ≡ Some (Some (deep, bytes))
  unfolding gap_step
  step_closes p q = let less : suc deep - 1 ≡ deep = omega arith in rw (eqb-suc-zero deep, p, q, less) refl

  step_within : opens b c ≡ false → closes b c ≡ false → gap_step (suc deep) (b ∷ c ∷ bytes) ≡ Some (Some (suc deep, c ∷ bytes))
  unfolding gap_step
  step_within p q = rw (eqb-suc-zero deep, p, q) refl

step_ended : (deep : ℕ) → gap_step (suc deep) [] ≡ None
unfolding gap_step
step_ended deep = rw (eqb-suc-zero deep) refl

step_unfinished : (deep b : ℕ) → gap_step (suc deep) (b ∷ []) ≡ None
unfolding gap_step
step_unfinished deep b = rw (eqb-suc-zero deep) refl

-- inside comments, the scanner goes where they end, and on from there
gap_comments : (deep : ℕ) (bytes : List ℕ) → gap_from deep bytes ≡ (after_comments deep bytes >>= gap_from 0)
gap_comments zero bytes = refl
gap_comments (suc deep) [] = gap_none (suc deep) [] (step_ended deep)
gap_comments (suc deep) (b ∷ []) = gap_none (suc deep) (b ∷ []) (step_unfinished deep b)
gap_comments (suc deep) (b ∷ c ∷ bytes) =
    elim (cases_Bool (opens b c)) [
      | inl p ↦ elim (cases_Bool (ltb (suc deep) 8192)) [
        | inl q ↦ gap_next (suc deep) (b ∷ c ∷ bytes) (suc (suc deep), bytes) (step_opens deep b c bytes p q)
            ∙ rw (one_opens deep b c bytes p q) (gap_comments (suc (suc deep)) bytes)
        | inr q ↦ gap_none (suc deep) (b ∷ c ∷ bytes) (step_too_deep deep b c bytes p q) ∙ rw (one_too_deep deep b c bytes p q) refl
      ]
      | inr p ↦ elim (cases_Bool (closes b c)) [
        | inl q ↦ gap_next (suc deep) (b ∷ c ∷ bytes) (deep, bytes) (step_closes deep b c bytes p q)
            ∙ rw (one_closes deep b c bytes p q) (gap_comments deep bytes)
        | inr q ↦ gap_next (suc deep) (b ∷ c ∷ bytes) (suc deep, c ∷ bytes) (step_within deep b c bytes p q)
            ∙ rw (one_within deep b c bytes p q) (gap_comments (suc deep) (c ∷ bytes))
      ]
    ]

-- ---- the bytes of a comment

-- what follows a comment doesn't matter to it
comments_again : (deep : ℕ) (inside behind rest : List ℕ) → after_comments deep inside ≡ Some behind
    → after_comments deep (inside ++ rest) ≡ Some (behind ++ rest)
comments_again zero inside behind rest e = ap (λ (l : List ℕ). some (l ++ rest)) (some_is inside behind e)
comments_again (suc deep) [] behind rest e = absurd (none_is_some behind e)
comments_again (suc deep) (b ∷ []) behind rest e = absurd (none_is_some behind e)
comments_again (suc deep) (b ∷ c ∷ bytes) behind rest e =
    elim (cases_Bool (opens b c)) [
      | inl p ↦ elim (cases_Bool (ltb (suc deep) 8192)) [
        | inl q ↦ one_opens deep b c (bytes ++ rest) p q
            ∙ comments_again (suc (suc deep)) bytes behind rest (sym (one_opens deep b c bytes p q) ∙ e)
        | inr q ↦ absurd (none_is_some behind (sym (one_too_deep deep b c bytes p q) ∙ e))
      ]
      | inr p ↦ elim (cases_Bool (closes b c)) [
        | inl q ↦ one_closes deep b c (bytes ++ rest) p q ∙ comments_again deep bytes behind rest (sym (one_closes deep b c bytes p q) ∙ e)
        | inr q ↦ one_within deep b c (bytes ++ rest) p q
            ∙ comments_again (suc deep) (c ∷ bytes) behind rest (sym (one_within deep b c bytes p q) ∙ e)
      ]
    ]

-- bytes that end the comments, and what follows them
record Ends (deep : ℕ) (bytes rest : List ℕ) : Type 0 where
  inside : List ℕ
  parts : bytes ≡ inside ++ rest
  whole : after_comments deep inside ≡ Some []

ends_within : (deep b c : ℕ) (bytes rest inside : List ℕ) → opens b c ≡ false → closes b c ≡ false → c ∷ bytes ≡ inside ++ rest
    → after_comments (suc deep) inside ≡ Some [] → after_comments (suc deep) (b ∷ inside) ≡ Some []
ends_within deep b c bytes rest [] p q e whole = absurd (none_is_some [] whole)
ends_within deep b c bytes rest (d ∷ inside) p q e whole = grind (arith, nat_tests)

comments_end : (deep : ℕ) (bytes rest : List ℕ) → after_comments deep bytes ≡ Some rest → Ends deep bytes rest
comments_end zero bytes rest e = record { inside = []; parts = some_is bytes rest e; whole = refl }
comments_end (suc deep) [] rest e = absurd (none_is_some rest e)
comments_end (suc deep) (b ∷ []) rest e = absurd (none_is_some rest e)
comments_end (suc deep) (b ∷ c ∷ bytes) rest e =
    elim (cases_Bool (opens b c)) [
      | inl p ↦ elim (cases_Bool (ltb (suc deep) 8192)) [
        | inl q ↦
            let r = comments_end (suc (suc deep)) bytes rest (sym (one_opens deep b c bytes p q) ∙ e) in
            record {
              inside = b ∷ c ∷ r.inside;
              parts = ap (λ (l : List ℕ). b ∷ c ∷ l) r.parts;
              whole = one_opens deep b c r.inside p q
                  ∙ r.whole;
            }
        | inr q ↦ absurd (none_is_some rest (sym (one_too_deep deep b c bytes p q) ∙ e))
      ]
      | inr p ↦ elim (cases_Bool (closes b c)) [
        | inl q ↦
            let r = comments_end deep bytes rest (sym (one_closes deep b c bytes p q) ∙ e) in
            record {
              inside = b ∷ c ∷ r.inside;
              parts = ap (λ (l : List ℕ). b ∷ c ∷ l) r.parts;
              whole = one_closes deep b c r.inside p q
                  ∙ r.whole;
            }
        | inr q ↦
            let r = comments_end (suc deep) (c ∷ bytes) rest (sym (one_within deep b c bytes p q) ∙ e) in
            record {
              inside = b ∷ r.inside;
              parts = ap (λ (l : List ℕ). b ∷ l) r.parts;
              whole = ends_within deep b c bytes rest r.inside p q
                  r.parts r.whole;
            }
      ]
    ]

-- ---- blanks

-- nothing blank stands in front
abbrev pub Stands : List ℕ → Type 0
Stands bytes = gap_step 0 bytes ≡ Some None

-- what stands in front, as the scanner sees it
data Front : List ℕ → Type 0 where
  solid : {bytes : List ℕ} → Stands bytes → Front bytes
  white : {b : ℕ} {rest : List ℕ} → is_space b ≡ true → gap_step 0 (b ∷ rest) ≡ Some (Some (0, rest)) → Front (b ∷ rest)
  remark : {b c : ℕ} {rest : List ℕ} → b ≡ 47 → c ≡ 42 → Front (b ∷ c ∷ rest)

step_white : (b : ℕ) (rest : List ℕ) → is_space b ≡ true → gap_step 0 (b ∷ rest) ≡ Some (Some (0, rest))
unfolding gap_step
step_white b [] h = rw h refl
step_white b (c ∷ rest) h = rw h refl

step_remark : (rest : List ℕ) → gap_step 0 (47 ∷ 42 ∷ rest) ≡ Some (Some (1, rest))
unfolding gap_step
step_remark rest = refl

front : (bytes : List ℕ) → Front bytes
unfolding gap_step
front [] = solid refl
front (b ∷ []) =
    elim (cases_Bool (is_space b)) [
      | inl h ↦ white h (step_white b [] h)
      | inr h ↦ solid (rw h refl)
    ]
front (b ∷ c ∷ rest) =
    elim (cases_Bool (is_space b)) [
      | inl h ↦ white h (step_white b (c ∷ rest) h)
      | inr h ↦ elim (cases_Bool (opens b c)) [
        | inl p ↦
            let t = and_parts (eqb b 47) (eqb c 42) p in
            remark (eqb-true b 47 t.0) (eqb-true c 42 t.1)
        | inr p ↦ solid (rw (h, p) refl)
      ]
    ]

-- blanks, and then the rest
pub record Blanks (bytes rest : List ℕ) : Type 0 where
  pub gap : List Blank
  pub parts : bytes ≡ flat_map blank_bytes gap ++ rest
  pub blank : AllByRecursion IsBlank gap

remark_parts : (b c : ℕ) (bytes inside behind gap rest : List ℕ) → b ≡ 47 → c ≡ 42 → bytes ≡ inside ++ behind → behind ≡ gap ++ rest
    → b ∷ c ∷ bytes ≡ (47 ∷ 42 ∷ (inside ++ gap)) ++ rest
remark_parts b c bytes inside behind gap rest p q e f = rw (p, q, e, f, append_assoc inside gap rest) refl

blanks_from : (n : ℕ) (bytes rest : List ℕ) → length bytes < suc n
    → ((bytes rest : List ℕ) → length bytes < n → gap_from 0 bytes ≡ Some rest → Blanks bytes rest) → Front bytes
    → gap_from 0 bytes ≡ Some rest → Blanks bytes rest
blanks_from n bytes rest lt later (solid h) e = record { gap = []; parts = some_is bytes rest (sym (gap_ends 0 bytes h) ∙ e); blank = tt }
blanks_from n (b ∷ bytes) rest lt later (white h step) e =
    let r = later bytes rest (omega arith) (sym (gap_next 0 (b ∷ bytes) (0, bytes) step) ∙ e) in
    record { gap = space b ∷ r.gap; parts = ap (λ (l : List ℕ). b ∷ l) r.parts; blank = (h, r.blank) }
blanks_from n (b ∷ c ∷ bytes) rest lt later (remark p q) e =
    let begun : gap_from 0 (47 ∷ 42 ∷ bytes) ≡ Some rest = rw (← p, ← q) e in
    let within : gap_from 1 bytes ≡ Some rest = sym (gap_next 0 (47 ∷ 42 ∷ bytes) (1, bytes) (step_remark bytes)) ∙ begun in
    let behind = bind_some (after_comments 1 bytes) (gap_from 0) rest (sym (gap_comments 1 bytes) ∙ within) in
    let ends = comments_end 1 bytes behind.0 behind.1 in
    let r = later behind.0 rest (omega (arith, ap length ends.parts, length-append ends.inside behind.0)) behind.2 in
    record {
      gap = comment ends.inside ∷ r.gap;
      parts = remark_parts b c bytes ends.inside behind.0
          (flat_map blank_bytes r.gap) rest p q ends.parts r.parts;
      blank = (ends.whole, r.blank);
    }

blanks_within : (n : ℕ) (bytes rest : List ℕ) → length bytes < n → gap_from 0 bytes ≡ Some rest → Blanks bytes rest
blanks_within zero bytes rest lt e = absurd (omega arith)
blanks_within (suc n) bytes rest lt e = blanks_from n bytes rest lt (blanks_within n) (front bytes) e

pub gap_written : (bytes rest : List ℕ) → gap_from 0 bytes ≡ Some rest → Blanks bytes rest
gap_written bytes rest e = blanks_within (suc (length bytes)) bytes rest (omega arith) e

pub gap_again : (gap : List Blank) (rest : List ℕ) → AllByRecursion IsBlank gap → Stands rest
    → gap_from 0 (flat_map blank_bytes gap ++ rest) ≡ Some rest
gap_again [] rest blank h = gap_ends 0 rest h
gap_again (space b ∷ gap) rest blank h = gap_next 0 (b ∷ (flat_map blank_bytes gap ++ rest)) (0, flat_map blank_bytes gap ++ rest)
    (step_white b (flat_map blank_bytes gap ++ rest) blank.0) ∙ gap_again gap rest blank.1 h
gap_again (comment inside ∷ gap) rest blank h =
    let later = flat_map blank_bytes gap ++ rest in
    gap_next 0 (47 ∷ 42 ∷ ((inside ++ flat_map blank_bytes gap) ++ rest)) (1, (inside ++ flat_map blank_bytes gap) ++ rest)
    (step_remark ((inside ++ flat_map blank_bytes gap) ++ rest))
    ∙ gap_comments 1 ((inside ++ flat_map blank_bytes gap) ++ rest)
    ∙ rw (append_assoc inside (flat_map blank_bytes gap) rest, comments_again 1 inside [] later blank.0) (gap_again gap rest blank.1 h)
