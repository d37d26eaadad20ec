-- Where symbols give names.
use Rattle.pg_aiger_reader.proofs.Common.{◌≡◌, ◌⊎◌, ℕ, ◌<◌, ◌&&◌, Bool, true, false, List, [], ◌∷◌, ◌++◌}
use Rattle.pg_aiger_reader.proofs.Common.{refl, sym, subst, ◌∙◌, inl, inr, eqb, ltb, bytes_eq, eqb-true, eqb-false, ltb-true, lt-ltb}
use Rattle.pg_aiger_reader.proofs.Common.{cases_Bool, and_parts, bytes_eq-Decides, Contains-push, Contains-push_cases, Contains-append_left}
use Rattle.pg_aiger.specs.CircuitText.{Kind, input, latch, output, Symbol}
use Rattle.pg_aiger_reader.specs.Ties.{Gives, IsNamed}
use Rattle.pg_aiger_reader.specs.Mirrors.Places.{is_kind, also, noted, IsPlaceOf}
use Rattle.pg_aiger_reader.specs.declared.ties.SymbolPlace.{SymbolPlace}
use Rattle.pg_aiger_reader.specs.declared.ties.SymbolPlace.TheVariants.{Missing, At, Twice}

pub kind_is : (k l : Kind) → is_kind k l ≡ true → k ≡ l
kind_is input input e = refl
kind_is latch latch e = refl
kind_is output output e = refl
kind_is input latch e = absurd cc
kind_is input output e = absurd cc
kind_is latch input e = absurd cc
kind_is latch output e = absurd cc
kind_is output input e = absurd cc
kind_is output latch e = absurd cc

pub kind_same : (k : Kind) → is_kind k k ≡ true
kind_same input = refl
kind_same latch = refl
kind_same output = refl

-- whether the symbol gives the name
abbrev test : Kind → ℕ → List ℕ → Symbol → Bool
test kind count name s = is_kind s.kind kind && ltb s.position count && bytes_eq s.name name

test_gives : (kind : Kind) (count : ℕ) (name : List ℕ) (s : Symbol) → test kind count name s ≡ true → Gives kind count name s.position s
test_gives kind count name s e =
    let outer = and_parts (is_kind s.kind kind && ltb s.position count) (bytes_eq s.name name) e in
    let within = and_parts (is_kind s.kind kind) (ltb s.position count) outer.0 in
    record {
      of_kind = kind_is s.kind kind within.0;
      named = (bytes_eq-Decides s.name name).0 outer.1;
      at = refl;
      within = ltb-true _ _ within.1;
    }

gives_test : (kind : Kind) (count : ℕ) (name : List ℕ) (place : ℕ) (s : Symbol) → Gives kind count name place s → test kind count name s ≡ true
gives_test kind count name place s g =
    let same : is_kind s.kind kind ≡ true = subst (λ k. is_kind k kind ≡ true) (sym g.of_kind) (kind_same kind) in
    let below : ltb s.position count ≡ true = lt-ltb _ _ (subst (λ p. p < count) (sym g.at) g.within) in
    let equal : bytes_eq s.name name ≡ true = (bytes_eq-Decides s.name name).1 g.named in
    rw (same, below, equal) refl

-- ---- one symbol more

named_more : (kind : Kind) (count : ℕ) (before : List Symbol) (s : Symbol) (name : List ℕ) (place : ℕ) → IsNamed kind count before name place
    → IsNamed kind count (before ++ s ∷ []) name place
named_more kind count before s name place (t, there, gives) = (t, Contains-append_left before (s ∷ []) t there, gives)

named_last : (kind : Kind) (count : ℕ) (before : List Symbol) (s : Symbol) (name : List ℕ) (place : ℕ) → Gives kind count name place s
    → IsNamed kind count (before ++ s ∷ []) name place
named_last kind count before s name place gives = (s, Contains-push before s, gives)

named_cases : (kind : Kind) (count : ℕ) (before : List Symbol) (s : Symbol) (name : List ℕ) (place : ℕ)
    → IsNamed kind count (before ++ s ∷ []) name place → IsNamed kind count before name place ⊎ Gives kind count name place s
named_cases kind count before s name place (t, there, gives) =
    elim (Contains-push_cases before s t there) [
      | inl h ↦ inl (t, h, gives)
      | inr e ↦ inr (subst (λ u. Gives kind count name place u) (sym e) gives)
    ]

-- it gives another name
seen_other : (kind : Kind) (count : ℕ) (before : List Symbol) (s : Symbol) (name : List ℕ) (found : SymbolPlace)
    → ((place : ℕ) → ¬ Gives kind count name place s) → IsPlaceOf kind count before name found → IsPlaceOf kind count (before ++ s ∷ []) name found
seen_other kind count before s name Missing none seen = λ place is.
    elim (named_cases kind count before s name place is) [ inl h ↦ seen place h | inr h ↦ none place h ]
seen_other kind count before s name (At p) none seen = (
  named_more kind count before s name p seen.0,
  λ q is. elim (named_cases kind count before s name q is) [ inl h ↦ seen.1 q h | inr h ↦ absurd (none q h) ],
)
seen_other kind count before s name Twice none (p, q, apart, first, second) =
    (p, q, apart, named_more kind count before s name p first, named_more kind count before s name q second)

-- it gives the name
seen_this : (kind : Kind) (count : ℕ) (before : List Symbol) (s : Symbol) (name : List ℕ) (found : SymbolPlace)
    → Gives kind count name s.position s → IsPlaceOf kind count before name found → IsPlaceOf kind count (before ++ s ∷ []) name (also found s.position)
seen_this kind count before s name Missing gives seen = (
  named_last kind count before s name s.position gives,
  λ q is. elim (named_cases kind count before s name q is) [ inl h ↦ absurd (seen q h) | inr h ↦ sym h.at ],
)
seen_this kind count before s name (At p) gives seen =
    elim (cases_Bool (eqb p s.position)) [
      | inl e ↦
          let same : p ≡ s.position = eqb-true p s.position e in
          rw e (
            named_more kind count before s name p seen.0,
            λ q is. elim (named_cases kind count before s name q is) [ inl h ↦ seen.1 q h | inr h ↦ sym h.at ∙ sym same ],
          )
      | inr e ↦ rw e (
        p,
        s.position,
        eqb-false p s.position e,
        named_more kind count before s name p seen.0,
        named_last kind count before s name s.position gives,
      )
    ]
seen_this kind count before s name Twice gives (p, q, apart, first, second) =
    (p, q, apart, named_more kind count before s name p first, named_more kind count before s name q second)

pub seen_more : (kind : Kind) (count : ℕ) (before : List Symbol) (s : Symbol) (name : List ℕ) (found : SymbolPlace)
    → IsPlaceOf kind count before name found → IsPlaceOf kind count (before ++ s ∷ []) name (noted found kind count name s)
seen_more kind count before s name found seen =
    elim (cases_Bool (test kind count name s)) [
      | inl e ↦ rw e (seen_this kind count before s name found (test_gives kind count name s e) seen)
      | inr e ↦ rw e (seen_other kind count before s name found
          (λ place g. let yes = gives_test kind count name place s g in absurd (let no : true ≡ false = sym yes ∙ e in cc no)) seen)
    ]
