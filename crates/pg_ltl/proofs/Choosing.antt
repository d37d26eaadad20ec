-- Where a formula holds, not all choices are wrong.
use Rattle.std.proofs.Common.{◌≡◌, ℕ, ◌+◌, ◌≤◌, inl, inr, Bool, true, false, List, [], ◌∷◌, ◌++◌, arith, sym, subst, true≢false, if◌then◌else◌}
use Rattle.std.proofs.lemmas.Bool.{cases_lt}
use Rattle.pg_ltl.specs.NormalForms.{NormalForm, top, bottom, literal, both, either, next, until, release, Holds}
use Rattle.pg_ltl.specs.Tableaux.{Each, Choice, free, asked, put_off, joined, with_each, product, same, choices, choices_of, IsPutOff}
use Rattle.pg_ltl.specs.Tableaux.{IsRight, IsAmong, IsLeftOut}
use Rattle.pg_ltl.proofs.Holding.{stable}

pub each_map : {A : Type 0} (P Q : A → Type 0) (xs : List A) → ((x : A) → P x → Q x) → Each P xs → Each Q xs
each_map P Q [] go h = tt
each_map P Q (x ∷ xs) go h = (go x h.0, each_map P Q xs go h.1)

pub each_both : {A : Type 0} (P Q : A → Type 0) (xs : List A) → Each P xs → Each Q xs → Each (λ x. P x × Q x) xs
each_both P Q [] h k = tt
each_both P Q (x ∷ xs) h k = ((h.0, k.0), each_both P Q xs h.1 k.1)

pub each_append : {A : Type 0} (P : A → Type 0) (xs ys : List A) → Each P xs → Each P ys → Each P (xs ++ ys)
each_append P [] ys h k = k
each_append P (x ∷ xs) ys h k = (h.0, each_append P xs ys h.1 k)

pub each_left : {A : Type 0} (P : A → Type 0) (xs ys : List A) → Each P (xs ++ ys) → Each P xs
each_left P [] ys h = tt
each_left P (x ∷ xs) ys h = (h.0, each_left P xs ys h.1)

pub each_right : {A : Type 0} (P : A → Type 0) (xs ys : List A) → Each P (xs ++ ys) → Each P ys
each_right P [] ys h = h
each_right P (x ∷ xs) ys h = each_right P xs ys h.1

pub each_among : (P : NormalForm → Type 0) (fs : List NormalForm) (f : NormalForm) → Each P fs → IsAmong fs f → P f
each_among P [] f h i = absurd i
each_among P (g ∷ gs) f h (inl e) = subst P e h.0
each_among P (g ∷ gs) f h (inr i) = each_among P gs f h.1 i

each_with : (P : Choice → Type 0) (c : Choice) (ds : List Choice) → Each P (with_each c ds) → Each (λ d. P (joined c d)) ds
each_with P c [] h = tt
each_with P c (d ∷ ds) h = (h.0, each_with P c ds h.1)

each_product : (P : Choice → Type 0) (cs ds : List Choice) → Each P (product cs ds) → Each (λ c. Each (λ d. P (joined c d)) ds) cs
each_product P [] ds h = tt
each_product P (c ∷ cs) ds h =
    (each_with P c ds (each_left P (with_each c ds) (product cs ds) h), each_product P cs ds (each_right P (with_each c ds) (product cs ds) h))

module _ (word : ℕ → ℕ → Bool) where
  abbrev Wrong : ℕ → Choice → Type 0
  Wrong t c = ¬ IsRight word t c

  right_joined : (t : ℕ) (c d : Choice) → IsRight word t c → IsRight word t d → IsRight word t (joined c d)
  right_joined t c d x y = record {
    asks = each_append (λ f. Holds word f (t + 1)) c.asks d.asks x.asks y.asks;
    puts = each_append (λ u. IsPutOff word u t) c.puts d.puts x.puts y.puts;
  }

  -- choices that aren't all wrong make products that aren't
  not_all : (t : ℕ) (cs ds : List Choice) → ¬ Each (Wrong t) cs → ¬ Each (Wrong t) ds → ¬ Each (Wrong t) (product cs ds)
  not_all t cs ds nc nd h =
      nc (each_map (λ c. Each (λ d. Wrong t (joined c d)) ds) (Wrong t) cs
      (λ c e right. nd (each_map (λ d. Wrong t (joined c d)) (Wrong t) ds (λ d wrong also. wrong (right_joined t c d right also)) e))
      (each_product (Wrong t) cs ds h))

  right_free : (t : ℕ) → IsRight word t free
  right_free t = record { asks = tt; puts = tt }

  literal_free : (t : ℕ) (a b : Bool) → a ≡ b → ¬ Each (Wrong t) (if same a b then free ∷ [] else [])
  literal_free t true true e h = h.0 (right_free t)
  literal_free t false false e h = h.0 (right_free t)
  literal_free t true false e h = true≢false e
  literal_free t false true e h = true≢false (sym e)

  pub covered : (f : NormalForm) (t : ℕ) → Holds word f t → ¬ Each (Wrong t) (choices (word t) f)
  covered top t h each = each.0 (right_free t)
  covered bottom t h each = h
  covered (literal p value) t h each = literal_free t (word t p) value h each
  covered (both f g) t h each = not_all t (choices (word t) f) (choices (word t) g) (covered f t h.0) (covered g t h.1) each
  covered (either f g) t h each =
      h (
        λ a. covered f t a (each_left (Wrong t) (choices (word t) f) (choices (word t) g) each),
        λ b. covered g t b (each_right (Wrong t) (choices (word t) f) (choices (word t) g) each),
      )
  covered (next f) t h each = each.0 (record { asks = (h, tt); puts = tt })
  covered (until f g) t h each =
      let off = put_off (until f g) ∷ [] in
      let later_choices = product (choices (word t) f) off in
      let not_now : ¬ Holds word g t = λ b. covered g t b (each_left (Wrong t) (choices (word t) g) later_choices each) in
      let now : Holds word f t = stable word f t (λ n. h (λ s le lasts b. elim (cases_lt t s) [
        | inl lt ↦ n (lasts t (omega arith) lt)
        | inr ge ↦ let e : s ≡ t = omega arith in not_now (subst (λ r. Holds word g r) e b)
      ])) in
      let later : Holds word (until f g) (t + 1) = λ none. h (λ s le lasts b. elim (cases_lt t s) [
        | inl lt ↦ none s (omega arith) (λ r from before. lasts r (omega arith) before) b
        | inr ge ↦ let e : s ≡ t = omega arith in not_now (subst (λ r. Holds word g r) e b)
      ]) in
      not_all t (choices (word t) f) off (covered f t now)
      (λ wrong. wrong.0 (record { asks = (later, tt); puts = ((h, not_now), tt) }))
      (each_right (Wrong t) (choices (word t) g) later_choices each)
  covered (release f g) t h each =
      let again = asked (release f g) ∷ [] in
      let now : Holds word g t = h t (omega arith) (λ r from before. absurd (omega arith)) in
      not_all t (choices (word t) g) (choices (word t) f ++ again) (covered g t now)
      (λ wrong.
      let not_yet : ¬ Holds word f t = λ a. covered f t a (each_left (Wrong t) (choices (word t) f) again wrong) in
      let later : Holds word (release f g) (t + 1) = λ s le lasts. h s (omega arith) (λ r from before. elim (cases_lt t r) [
        | inl lt ↦ lasts r (omega arith) before
        | inr ge ↦ let e : r ≡ t = omega arith in (λ a. not_yet (subst (λ x. Holds word f x) e a))
      ]) in
      let last : Each (Wrong t) again = each_right (Wrong t) (choices (word t) f) again wrong in
      last.0 (record { asks = (later, tt); puts = tt }))
      each

  pub covered_all : (fs : List NormalForm) (t : ℕ) → Each (λ f. Holds word f t) fs → ¬ Each (Wrong t) (choices_of (word t) fs)
  covered_all [] t h each = each.0 (right_free t)
  covered_all (f ∷ fs) t h each =
      not_all t (choices (word t) f) (choices_of (word t) fs) (covered f t h.0) (covered_all fs t h.1) each

  -- no Until is put off for ever
  pub not_for_ever : (u : NormalForm) (t : ℕ) → ¬ ((s : ℕ) → t ≤ s → ¬ ¬ IsPutOff word u s)
  not_for_ever (until f g) t h = h t (omega arith) (λ off. off.0 (λ s le lasts b. h s le (λ also. also.1 b)))
  not_for_ever top t h = h t (omega arith) (λ off. off)
  not_for_ever bottom t h = h t (omega arith) (λ off. off)
  not_for_ever (literal p value) t h = h t (omega arith) (λ off. off)
  not_for_ever (both f g) t h = h t (omega arith) (λ off. off)
  not_for_ever (either f g) t h = h t (omega arith) (λ off. off)
  not_for_ever (next f) t h = h t (omega arith) (λ off. off)
  not_for_ever (release f g) t h = h t (omega arith) (λ off. off)

-- what is right for a choice is right for one that asks for no more
pub right_less : (word : ℕ → ℕ → Bool) (t : ℕ) (c d : Choice) → Each (IsAmong c.asks) d.asks → Each (IsAmong c.puts) d.puts → IsRight word t c
    → IsRight word t d
right_less word t c d asks puts right = record {
  asks = each_map (IsAmong c.asks) (λ f. Holds word f (t + 1)) d.asks (λ f i. each_among (λ g. Holds word g (t + 1)) c.asks f right.asks i) asks;
  puts = each_map (IsAmong c.puts) (λ u. IsPutOff word u t) d.puts (λ u i. each_among (λ g. IsPutOff word g t) c.puts u right.puts i) puts;
}

wrong_more : (word : ℕ → ℕ → Bool) (t : ℕ) (c : Choice) (kept : List Choice) → IsLeftOut c kept → Each (λ d. ¬ IsRight word t d) kept
    → ¬ IsRight word t c
wrong_more word t c [] out wrong right = out
wrong_more word t c (d ∷ ds) (inl less) wrong right = wrong.0 (right_less word t c d less.0 less.1 right)
wrong_more word t c (d ∷ ds) (inr out) wrong right = wrong_more word t c ds out wrong.1 right

pub pruned : (word : ℕ → ℕ → Bool) (t : ℕ) (all kept : List Choice) → Each (λ c. IsLeftOut c kept) all
    → Each (λ c. ¬ IsRight word t c) kept → Each (λ c. ¬ IsRight word t c) all
pruned word t all kept out wrong = each_map (λ c. IsLeftOut c kept) (λ c. ¬ IsRight word t c) all (λ c o. wrong_more word t c kept o wrong) out
