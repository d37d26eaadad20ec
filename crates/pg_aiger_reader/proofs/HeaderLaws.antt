-- The first line: what is read is spelt, and what is spelt is read.
use Rattle.pg_aiger_reader.proofs.Common.{◌≡◌, ◌≢◌, ◌⊎◌, ℕ, ◌+◌, ◌<◌, ◌≤◌, ◌&&◌, ◌||◌, Bool, true, false, List, [], ◌∷◌, ◌++◌}
use Rattle.pg_aiger_reader.proofs.Common.{length, Option, Some, None, refl, sym, subst, arith, inl, inr, ◌>>=◌, eqb, ltb, eq-eqb}
use Rattle.pg_aiger_reader.proofs.Common.{eqb-true, le-ltb, le-leb, leb-true, ltb-false, chosen, some, some_is}
use Rattle.pg_aiger_reader.proofs.Common.{none, none_is_some, line_at, header_of, header_at, AllByRecursion, and_parts, if◌then◌else◌}
use Rattle.pg_aiger_reader.proofs.Lines.{line_found, line_only, line_few}
use Rattle.pg_aiger_reader.proofs.Common.{cases_Bool, eqb-false, lt-ltb, ltb-true, ne_eqb, leb-false, lt-leb, header_fault, fault_at}
use Rattle.pg_aiger_reader.specs.declared.fault.Section.{Section}
use Rattle.pg_aiger_reader.specs.declared.fault.Section.TheVariants.{BadStates, Constraints, Justice, Fairness}
use Rattle.pg_aiger_reader.specs.declared.fault.ReaderFault.{ReaderFault}
use Rattle.pg_aiger_reader.specs.declared.fault.ReaderFault.TheVariants.{OutOfMemory, Syntax, NumberTooLarge, TooLarge, TooFewVariables, OtherVariables, LeftOut, Reset}
use Rattle.pg_aiger_reader.specs.Faults.{IsLeftOut, IsWithin, IsHeaderFault}
use Rattle.pg_aiger_reader.specs.declared.header.Header.{Header}
use Rattle.pg_aiger_reader.specs.declared.item.AigerFormat.{AigerFormat}
use Rattle.pg_aiger_reader.specs.declared.item.AigerFormat.TheVariants.{Ascii, Binary}
use Rattle.pg_aiger_reader.specs.Texts.{BeginsLine, form_text, AreVariables}
use Rattle.pg_aiger_reader.specs.Mirrors.Headers.{form_at, left_out, fits, head, within, misfit, over}

abbrev pub AreZeros : List ℕ → Type 0
AreZeros ns = AllByRecursion (λ n. n ≡ 0) ns

-- what a header that is read says
pub record IsHeader (bytes : List ℕ) (h : Header) (rest : List ℕ) : Type 0 where
  pub text : List ℕ
  pub zeros : List ℕ
  pub begins : bytes ≡ form_text h.form ++ text
  pub line : BeginsLine text (h.greatest ∷ h.inputs ∷ h.latches ∷ h.outputs ∷ h.gates ∷ zeros) rest
  pub few_zeros : length zeros ≤ 4
  pub zero : AreZeros zeros
  pub variables : AreVariables h.form (h.inputs + h.latches + h.gates) h.greatest
  pub few_variables : h.greatest ≤ 16777216
  pub few_outputs : h.outputs ≤ 16777216

-- ---- zeros

if_none : (b : Bool) (s : Section) (rest : Option Section) → (if b then rest else Some s) ≡ none → (b ≡ true) × (rest ≡ none)
if_none true s rest e = (refl, e)
if_none false s rest e = absurd (none_is_some s (sym e))

zeros_found : (ns : List ℕ) → length ns ≤ 4 → left_out ns ≡ None → AreZeros ns
zeros_found [] few e = tt
zeros_found (b ∷ []) few e = (eqb-true b 0 (if_none _ _ _ e).0, tt)
zeros_found (b ∷ c ∷ []) few e =
    let first = if_none _ _ _ e in
    let second = if_none _ _ _ first.1 in
    (eqb-true b 0 first.0, (eqb-true c 0 second.0, tt))
zeros_found (b ∷ c ∷ j ∷ []) few e =
    let first = if_none _ _ _ e in
    let second = if_none _ _ _ first.1 in
    let third = if_none _ _ _ second.1 in
    (eqb-true b 0 first.0, (eqb-true c 0 second.0, (eqb-true j 0 third.0, tt)))
zeros_found (b ∷ c ∷ j ∷ f ∷ []) few e =
    let first = if_none _ _ _ e in
    let second = if_none _ _ _ first.1 in
    let third = if_none _ _ _ second.1 in
    let fourth = if_none _ _ _ third.1 in
    (eqb-true b 0 first.0, (eqb-true c 0 second.0, (eqb-true j 0 third.0, (eqb-true f 0 fourth.0, tt))))
zeros_found (b ∷ c ∷ j ∷ f ∷ n ∷ ns) few e = absurd (omega arith)

zeros_only : (ns : List ℕ) → AreZeros ns → left_out ns ≡ None
zeros_only [] are = refl
zeros_only (b ∷ []) are = rw are.0 refl
zeros_only (b ∷ c ∷ []) are = rw (are.0, are.1.0) refl
zeros_only (b ∷ c ∷ j ∷ []) are = rw (are.0, are.1.0, are.1.1.0) refl
zeros_only (b ∷ c ∷ j ∷ f ∷ ns) are = rw (are.0, are.1.0, are.1.1.0, are.1.1.1.0) refl

-- ---- forms

four : (a b c d a' b' c' d' : ℕ) (rest : List ℕ) → a ≡ a' → b ≡ b' → c ≡ c' → d ≡ d' → (a ∷ b ∷ c ∷ d ∷ rest) ≡ a' ∷ b' ∷ c' ∷ d' ∷ rest
four a b c d a' b' c' d' rest e f g h = cc

four_tests : (a b c d k l m n : ℕ) (rest : List ℕ) → eqb a k && eqb b l && eqb c m && eqb d n ≡ true → (a ∷ b ∷ c ∷ d ∷ rest) ≡ k ∷ l ∷ m ∷ n ∷ rest
four_tests a b c d k l m n rest e =
    let first = and_parts _ (eqb d n) e in
    let second = and_parts _ (eqb c m) first.0 in
    let third = and_parts _ (eqb b l) second.0 in
    four a b c d k l m n rest (eqb-true a k third.0) (eqb-true b l third.1) (eqb-true c m second.1) (eqb-true d n first.1)

form_found : (bytes : List ℕ) (x : AigerFormat × List ℕ) → form_at bytes ≡ Some x → bytes ≡ form_text x.0 ++ x.1
form_found [] x e = absurd (none_is_some x e)
form_found (a ∷ []) x e = absurd (none_is_some x e)
form_found (a ∷ b ∷ []) x e = absurd (none_is_some x e)
form_found (a ∷ b ∷ c ∷ []) x e = absurd (none_is_some x e)
form_found (a ∷ b ∷ c ∷ d ∷ rest) x e =
    elim (chosen (eqb a 97 && eqb b 97 && eqb c 103 && eqb d 32) (some (Ascii, rest)) _ (some x) e) [
      | inl w ↦
          subst (λ (y : AigerFormat × List ℕ). (a ∷ b ∷ c ∷ d ∷ rest) ≡ form_text y.0 ++ y.1) (some_is (Ascii, rest) x w.1)
          (four_tests a b c d 97 97 103 32 rest w.0)
      | inr v ↦ elim (chosen (eqb a 97 && eqb b 105 && eqb c 103 && eqb d 32) (some (Binary, rest)) none (some x) v.1) [
        | inl w ↦
            subst (λ (y : AigerFormat × List ℕ). (a ∷ b ∷ c ∷ d ∷ rest) ≡ form_text y.0 ++ y.1) (some_is (Binary, rest) x w.1)
            (four_tests a b c d 97 105 103 32 rest w.0)
        | inr w ↦ absurd (none_is_some x w.1)
      ]
    ]

form_only : (form : AigerFormat) (text : List ℕ) → form_at (form_text form ++ text) ≡ Some (form, text)
form_only Ascii text = refl
form_only Binary text = refl

-- ---- headers

fits_found : (form : AigerFormat) (m i l a : ℕ) → fits form m i l a ≡ true → AreVariables form (i + l + a) m
fits_found Ascii m i l a e = leb-true _ _ e
fits_found Binary m i l a e = eqb-true _ _ e

fits_only : (form : AigerFormat) (m i l a : ℕ) → AreVariables form (i + l + a) m → fits form m i l a ≡ true
fits_only Ascii m i l a are = le-leb _ _ are
fits_only Binary m i l a are = eq-eqb _ _ are

either_false : (a b : Bool) → a || b ≡ false → (a ≡ false) × (b ≡ false)
either_false true b e = absurd cc
either_false false b e = (refl, e)

record Checked (form : AigerFormat) (m i l o a : ℕ) (out : Option Section) (h : Header) : Type 0 where
  is : h ≡ head form m i l o a
  none_out : out ≡ None
  fit : AreVariables form (i + l + a) m
  few : m ≤ 16777216
  few_outputs : o ≤ 16777216

within_found : (form : AigerFormat) (m i l o a : ℕ) (out : Option Section) (h : Header) → within form m i l o a out ≡ Some h → Checked form m i l o a out h
within_found form m i l o a (Some s) h e = absurd (none_is_some h e)
within_found form m i l o a None h e =
    elim (chosen (ltb 16777216 m || ltb 16777216 o) none _ (some h) e) [
      | inl w ↦ absurd (none_is_some h w.1)
      | inr v ↦ elim (chosen (fits form m i l a) (some (head form m i l o a)) none (some h) v.1) [
        | inl w ↦
            let both = either_false (ltb 16777216 m) (ltb 16777216 o) v.0 in
            record {
              is = sym (some_is _ h w.1);
              none_out = refl;
              fit = fits_found form m i l a w.0;
              few = ltb-false _ _ both.0;
              few_outputs = ltb-false _ _ both.1;
            }
        | inr w ↦ absurd (none_is_some h w.1)
      ]
    ]

pub header_found : (bytes : List ℕ) (x : Header × List ℕ) → header_at bytes ≡ Some x → IsHeader bytes x.0 x.1
unfolding header_at header_of
header_found bytes x e = of_form (form_at bytes) refl e
  where
    made : (form : AigerFormat) (text rest : List ℕ) (m i l o a : ℕ) (more : List ℕ) (h : Header) → bytes ≡ form_text form ++ text
        → line_at 9 text ≡ Some (m ∷ i ∷ l ∷ o ∷ a ∷ more, rest) → Checked form m i l o a (left_out more) h → IsHeader bytes h rest
    made form text rest m i l o a more h begins same c =
        let few = line_few 9 text (m ∷ i ∷ l ∷ o ∷ a ∷ more, rest) same in
        let short : length more ≤ 4 = omega (arith, few) in
        subst (λ h. IsHeader bytes h rest) (sym c.is)
        (record {
          text = text;
          zeros = more;
          begins = begins;
          line = (line_found 9 text (m ∷ i ∷ l ∷ o ∷ a ∷ more, rest) same).1;
          few_zeros = short;
          zero = zeros_found more short c.none_out;
          variables = c.fit;
          few_variables = c.few;
          few_outputs = c.few_outputs;
        })

    of_head : (form : AigerFormat) (text rest : List ℕ) (m i l o a : ℕ) (more : List ℕ) → bytes ≡ form_text form ++ text
        → line_at 9 text ≡ Some (m ∷ i ∷ l ∷ o ∷ a ∷ more, rest) → (read : Option Header) → within form m i l o a (left_out more) ≡ read
        → (read >>= λ h. Some (h, rest)) ≡ Some x → IsHeader bytes x.0 x.1
    of_head form text rest m i l o a more begins same None is e = absurd (none_is_some x e)
    of_head form text rest m i l o a more begins same (Some h) is e =
        subst (λ (y : Header × List ℕ). IsHeader bytes y.0 y.1) (some_is (h, rest) x e)
        (made form text rest m i l o a more h begins same (within_found form m i l o a (left_out more) h is))

    of_line : (form : AigerFormat) (text : List ℕ) → bytes ≡ form_text form ++ text → (read : Option (List ℕ × List ℕ)) → line_at 9 text ≡ read
        → (read >>= λ y. header_of form y.0 >>= λ h. Some (h, y.1)) ≡ Some x → IsHeader bytes x.0 x.1
    of_line form text begins None same e = absurd (none_is_some x e)
    of_line form text begins (Some ([], rest)) same e = absurd (none_is_some x e)
    of_line form text begins (Some (m ∷ [], rest)) same e = absurd (none_is_some x e)
    of_line form text begins (Some (m ∷ i ∷ [], rest)) same e = absurd (none_is_some x e)
    of_line form text begins (Some (m ∷ i ∷ l ∷ [], rest)) same e = absurd (none_is_some x e)
    of_line form text begins (Some (m ∷ i ∷ l ∷ o ∷ [], rest)) same e = absurd (none_is_some x e)
    of_line form text begins (Some (m ∷ i ∷ l ∷ o ∷ a ∷ more, rest)) same e =
        of_head form text rest m i l o a more begins same (within form m i l o a (left_out more)) refl e

    of_form : (read : Option (AigerFormat × List ℕ)) → form_at bytes ≡ read
        → (read >>= λ y. line_at 9 y.1 >>= λ z. header_of y.0 z.0 >>= λ h. Some (h, z.1)) ≡ Some x → IsHeader bytes x.0 x.1
    of_form None same e = absurd (none_is_some x e)
    of_form (Some y) same e = of_line y.0 y.1 (form_found bytes y same) (line_at 9 y.1) refl e

pub header_only : (bytes : List ℕ) (h : Header) (rest : List ℕ) → IsHeader bytes h rest → header_at bytes ≡ Some (h, rest)
unfolding header_at header_of
header_only bytes h rest is =
    let few = is.few_zeros in
    let line = line_only 9 is.text h.greatest (h.inputs ∷ h.latches ∷ h.outputs ∷ h.gates ∷ is.zeros) rest is.line (omega (arith, few)) in
    let low : ltb 16777216 h.greatest ≡ false = le-ltb _ _ is.few_variables in
    let low' : ltb 16777216 h.outputs ≡ false = le-ltb _ _ is.few_outputs in
    rw (
      is.begins,
      form_only h.form is.text,
      line,
      zeros_only is.zeros is.zero,
      low,
      low',
      fits_only h.form h.greatest h.inputs h.latches h.gates is.variables,
    ) refl

-- ---- what a header is refused for by name

zero_or : (n : ℕ) (first s : Section) (rest : Option Section) → (if eqb n 0 then rest else Some first) ≡ some s
    → ((n ≡ 0) × (rest ≡ some s)) ⊎ ((n ≢ 0) × (first ≡ s))
zero_or n first s rest e =
    elim (chosen (eqb n 0) rest (some first) (some s) e) [
      | inl w ↦ inl (eqb-true n 0 w.0, w.1)
      | inr w ↦ inr (eqb-false n 0 w.0, some_is first s w.1)
    ]

left_out_found : (ns : List ℕ) (s : Section) → left_out ns ≡ Some s → IsLeftOut s ns
left_out_found [] s e = absurd (none_is_some s e)
left_out_found (b ∷ []) s e =
    elim (zero_or b BadStates s none e) [
      | inl w0 ↦ absurd (none_is_some s w0.1)
      | inr w0 ↦ subst (λ t. IsLeftOut t (b ∷ [])) w0.1 w0.0
    ]
left_out_found (b ∷ c ∷ []) s e =
    elim (zero_or b BadStates s _ e) [
      | inl w0 ↦ elim (zero_or c Constraints s none w0.1) [
        | inl w1 ↦ absurd (none_is_some s w1.1)
        | inr w1 ↦ subst (λ t. IsLeftOut t (b ∷ c ∷ [])) w1.1 (w0.0, w1.0)
      ]
      | inr w0 ↦ subst (λ t. IsLeftOut t (b ∷ c ∷ [])) w0.1 w0.0
    ]
left_out_found (b ∷ c ∷ j ∷ []) s e =
    elim (zero_or b BadStates s _ e) [
      | inl w0 ↦ elim (zero_or c Constraints s _ w0.1) [
        | inl w1 ↦ elim (zero_or j Justice s none w1.1) [
          | inl w2 ↦ absurd (none_is_some s w2.1)
          | inr w2 ↦ subst (λ t. IsLeftOut t (b ∷ c ∷ j ∷ [])) w2.1 (w0.0, w1.0, w2.0)
        ]
        | inr w1 ↦ subst (λ t. IsLeftOut t (b ∷ c ∷ j ∷ [])) w1.1 (w0.0, w1.0)
      ]
      | inr w0 ↦ subst (λ t. IsLeftOut t (b ∷ c ∷ j ∷ [])) w0.1 w0.0
    ]
left_out_found (b ∷ c ∷ j ∷ f ∷ ns) s e =
    elim (zero_or b BadStates s _ e) [
      | inl w0 ↦ elim (zero_or c Constraints s _ w0.1) [
        | inl w1 ↦ elim (zero_or j Justice s _ w1.1) [
          | inl w2 ↦ elim (zero_or f Fairness s none w2.1) [
            | inl w3 ↦ absurd (none_is_some s w3.1)
            | inr w3 ↦ subst (λ t. IsLeftOut t (b ∷ c ∷ j ∷ f ∷ ns)) w3.1 (w0.0, w1.0, w2.0, w3.0)
          ]
          | inr w2 ↦ subst (λ t. IsLeftOut t (b ∷ c ∷ j ∷ f ∷ ns)) w2.1 (w0.0, w1.0, w2.0)
        ]
        | inr w1 ↦ subst (λ t. IsLeftOut t (b ∷ c ∷ j ∷ f ∷ ns)) w1.1 (w0.0, w1.0)
      ]
      | inr w0 ↦ subst (λ t. IsLeftOut t (b ∷ c ∷ j ∷ f ∷ ns)) w0.1 w0.0
    ]

left_out_only : (s : Section) (ns : List ℕ) → IsLeftOut s ns → left_out ns ≡ Some s
left_out_only BadStates [] is = absurd is
left_out_only BadStates (b ∷ []) is = rw (ne_eqb b 0 is) refl
left_out_only BadStates (b ∷ c ∷ []) is = rw (ne_eqb b 0 is) refl
left_out_only BadStates (b ∷ c ∷ j ∷ []) is = rw (ne_eqb b 0 is) refl
left_out_only BadStates (b ∷ c ∷ j ∷ f ∷ ns) is = rw (ne_eqb b 0 is) refl
left_out_only Constraints [] is = absurd is
left_out_only Constraints (b ∷ []) is = absurd is
left_out_only Constraints (b ∷ c ∷ []) is = rw (is.0, ne_eqb c 0 is.1) refl
left_out_only Constraints (b ∷ c ∷ j ∷ []) is = rw (is.0, ne_eqb c 0 is.1) refl
left_out_only Constraints (b ∷ c ∷ j ∷ f ∷ ns) is = rw (is.0, ne_eqb c 0 is.1) refl
left_out_only Justice [] is = absurd is
left_out_only Justice (b ∷ []) is = absurd is
left_out_only Justice (b ∷ c ∷ []) is = absurd is
left_out_only Justice (b ∷ c ∷ j ∷ []) is = rw (is.0, is.1, ne_eqb j 0 is.2) refl
left_out_only Justice (b ∷ c ∷ j ∷ f ∷ ns) is = rw (is.0, is.1, ne_eqb j 0 is.2) refl
left_out_only Fairness [] is = absurd is
left_out_only Fairness (b ∷ []) is = absurd is
left_out_only Fairness (b ∷ c ∷ []) is = absurd is
left_out_only Fairness (b ∷ c ∷ j ∷ []) is = absurd is
left_out_only Fairness (b ∷ c ∷ j ∷ f ∷ ns) is = rw (is.0, is.1, is.2, ne_eqb f 0 is.3) refl

either_true : (a b : Bool) → a || b ≡ true → (a ≡ true) ⊎ (b ≡ true)
either_true true b e = inl refl
either_true false b e = inr e

misfit_found : (form : AigerFormat) (m i l o a : ℕ) (ns : List ℕ) → fits form m i l a ≡ false → IsWithin m o ns
    → IsHeaderFault form m (i + l + a) o ns (misfit form)
misfit_found Ascii m i l o a ns e within = (within, refl, leb-false _ _ e)
misfit_found Binary m i l o a ns e within = (within, refl, eqb-false _ _ e)

over_found : (form : AigerFormat) (m i l o a : ℕ) (ns : List ℕ) (out : Option Section) (fault : ReaderFault) → length ns ≤ 4 → left_out ns ≡ out
    → over form m i l o a out ≡ Some fault → IsHeaderFault form m (i + l + a) o ns fault
over_found form m i l o a ns (Some s) fault few same e =
    subst (IsHeaderFault form m (i + l + a) o ns) (some_is (LeftOut s) fault e) (left_out_found ns s same)
over_found form m i l o a ns None fault few same e =
    elim (chosen (ltb 16777216 m || ltb 16777216 o) (some TooLarge) _ (some fault) e) [
      | inl w ↦
          let large : (16777216 < m) ⊎ (16777216 < o) =
          elim (either_true (ltb 16777216 m) (ltb 16777216 o) w.0) [ inl h ↦ inl (ltb-true _ _ h) | inr h ↦ inr (ltb-true _ _ h) ] in
          subst (IsHeaderFault form m (i + l + a) o ns) (some_is TooLarge fault w.1) (zeros_found ns few same, large)
      | inr v ↦ elim (chosen (fits form m i l a) none (some (misfit form)) (some fault) v.1) [
        | inl w ↦ absurd (none_is_some fault w.1)
        | inr w ↦
            let both = either_false (ltb 16777216 m) (ltb 16777216 o) v.0 in
            let within : IsWithin m o ns = (zeros_found ns few same, ltb-false _ _ both.0, ltb-false _ _ both.1) in
            subst (IsHeaderFault form m (i + l + a) o ns) (some_is (misfit form) fault w.1) (misfit_found form m i l o a ns w.0 within)
      ]
    ]

over_large : (form : AigerFormat) (m i l o a : ℕ) → (16777216 < m) ⊎ (16777216 < o) → over form m i l o a None ≡ Some TooLarge
over_large form m i l o a (inl lt) = rw (lt-ltb _ _ lt) refl
over_large form m i l o a (inr lt) =
    elim (cases_Bool (ltb 16777216 m)) [ inl h ↦ rw h refl | inr h ↦ rw (h, lt-ltb _ _ lt) refl ]

over_within : (form : AigerFormat) (m i l o a : ℕ) (ns : List ℕ) → IsWithin m o ns → fits form m i l a ≡ false
    → over form m i l o a (left_out ns) ≡ Some (misfit form)
over_within form m i l o a ns within e =
    let low : ltb 16777216 m ≡ false = le-ltb _ _ within.1 in
    let low' : ltb 16777216 o ≡ false = le-ltb _ _ within.2 in
    rw (zeros_only ns within.0, low, low', e) refl

over_only : (form : AigerFormat) (m i l o a : ℕ) (ns : List ℕ) (fault : ReaderFault) → IsHeaderFault form m (i + l + a) o ns fault
    → over form m i l o a (left_out ns) ≡ Some fault
over_only form m i l o a ns (LeftOut s) is = rw (left_out_only s ns is) refl
over_only form m i l o a ns TooLarge is = rw (zeros_only ns is.0) (over_large form m i l o a is.1)
over_only Ascii m i l o a ns TooFewVariables (within, same, less) = over_within Ascii m i l o a ns within (lt-leb _ _ less)
over_only Binary m i l o a ns TooFewVariables (within, same, less) = absurd cc
over_only Ascii m i l o a ns OtherVariables (within, same, other) = absurd cc
over_only Binary m i l o a ns OtherVariables (within, same, other) = over_within Binary m i l o a ns within (ne_eqb _ _ other)
over_only form m i l o a ns OutOfMemory is = absurd is
over_only form m i l o a ns (Syntax n) is = absurd is
over_only form m i l o a ns (NumberTooLarge n) is = absurd is
over_only form m i l o a ns (Reset n) is = absurd is

-- a header that is refused for this
pub record IsRefusedHeader (bytes : List ℕ) (fault : ReaderFault) : Type 0 where
  pub form : AigerFormat
  pub text : List ℕ
  pub rest : List ℕ
  pub m : ℕ
  pub i : ℕ
  pub l : ℕ
  pub o : ℕ
  pub a : ℕ
  pub counts : List ℕ
  pub begins : bytes ≡ form_text form ++ text
  pub line : BeginsLine text (m ∷ i ∷ l ∷ o ∷ a ∷ counts) rest
  pub few : length counts ≤ 4
  pub wrong : IsHeaderFault form m (i + l + a) o counts fault

pub fault_found : (bytes : List ℕ) (fault : ReaderFault) → fault_at bytes ≡ Some fault → IsRefusedHeader bytes fault
unfolding fault_at header_fault
fault_found bytes fault e = of_form (form_at bytes) refl e
  where
    of_line : (form : AigerFormat) (text : List ℕ) → bytes ≡ form_text form ++ text → (read : Option (List ℕ × List ℕ)) → line_at 9 text ≡ read
        → (read >>= λ y. header_fault form y.0) ≡ Some fault → IsRefusedHeader bytes fault
    of_line form text begins None same e = absurd (none_is_some fault e)
    of_line form text begins (Some ([], rest)) same e = absurd (none_is_some fault e)
    of_line form text begins (Some (m ∷ [], rest)) same e = absurd (none_is_some fault e)
    of_line form text begins (Some (m ∷ i ∷ [], rest)) same e = absurd (none_is_some fault e)
    of_line form text begins (Some (m ∷ i ∷ l ∷ [], rest)) same e = absurd (none_is_some fault e)
    of_line form text begins (Some (m ∷ i ∷ l ∷ o ∷ [], rest)) same e = absurd (none_is_some fault e)
    of_line form text begins (Some (m ∷ i ∷ l ∷ o ∷ a ∷ more, rest)) same e =
        let few = line_few 9 text (m ∷ i ∷ l ∷ o ∷ a ∷ more, rest) same in
        let short : length more ≤ 4 = omega (arith, few) in
        record {
          form = form;
          text = text;
          rest = rest;
          m = m;
          i = i;
          l = l;
          o = o;
          a = a;
          counts = more;
          begins = begins;
          line = (line_found 9 text (m ∷ i ∷ l ∷ o ∷ a ∷ more, rest) same).1;
          few = short;
          wrong = over_found form m i l o a more (left_out more) fault short refl e;
        }

    of_form : (read : Option (AigerFormat × List ℕ)) → form_at bytes ≡ read → (read >>= λ y. line_at 9 y.1 >>= λ z. header_fault y.0 z.0) ≡ Some fault
        → IsRefusedHeader bytes fault
    of_form None same e = absurd (none_is_some fault e)
    of_form (Some y) same e = of_line y.0 y.1 (form_found bytes y same) (line_at 9 y.1) refl e

pub fault_only : (bytes : List ℕ) (fault : ReaderFault) → IsRefusedHeader bytes fault → fault_at bytes ≡ Some fault
unfolding fault_at header_fault
fault_only bytes fault is =
    let few = is.few in
    let line = line_only 9 is.text is.m (is.i ∷ is.l ∷ is.o ∷ is.a ∷ is.counts) is.rest is.line (omega (arith, few)) in
    rw (is.begins, form_only is.form is.text, line) (over_only is.form is.m is.i is.l is.o is.a is.counts fault is.wrong)

pub header_unnamed : (bytes : List ℕ) (h : Header) (rest : List ℕ) → IsHeader bytes h rest → fault_at bytes ≡ None
unfolding fault_at header_fault
header_unnamed bytes h rest is =
    let few = is.few_zeros in
    let line = line_only 9 is.text h.greatest (h.inputs ∷ h.latches ∷ h.outputs ∷ h.gates ∷ is.zeros) rest is.line (omega (arith, few)) in
    let low : ltb 16777216 h.greatest ≡ false = le-ltb _ _ is.few_variables in
    let low' : ltb 16777216 h.outputs ≡ false = le-ltb _ _ is.few_outputs in
    let fit = fits_only h.form h.greatest h.inputs h.latches h.gates is.variables in
    rw (is.begins, form_only h.form is.text, line, zeros_only is.zeros is.zero, low, low', fit) refl
