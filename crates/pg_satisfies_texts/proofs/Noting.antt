-- What symbols give a name to, after one more symbol.
use Rattle.std.proofs.Common.{◌≡◌, ◌⊎◌, ◌∙◌, ℕ, Bool, true, false, eqb, Option, Some, None, List, [], ◌∷◌, ◌++◌, arith, refl, sym, ap, subst, inl, inr}
use Rattle.std.specs.Prelude.{Contains}
use Rattle.std.specs.Str.{bytes_eq}
use Rattle.std.proofs.lemmas.Bool.{cases_Bool, eqb-true, eqb-false}
use Rattle.std.proofs.lemmas.Slice.Eq.{bytes_eq-Decides}
use Rattle.std.proofs.lemmas.List.Elements.{Contains-append_left, Contains-push, Contains-push_cases}
use Rattle.pg_aiger.specs.Circuits.{Circuit}
use Rattle.pg_aiger.specs.CircuitText.{Kind, input, latch, output, Symbol}
use Rattle.pg_satisfies_texts.specs.Names.{literal_of, is_port, Gives, IsGiven}
use Rattle.pg_satisfies_texts.specs.Mirrors.Signals.{also, noted, noted_if, noted_at, meaning, signals_of, IsLiteral, AreSignals, IsMeaning}
use Rattle.pg_satisfies_texts.specs.declared.signals.NamedLiteral.{NamedLiteral}
use Rattle.pg_satisfies_texts.specs.declared.signals.NamedLiteral.TheVariants.{Nowhere, Only, Twice}
use Rattle.pg_satisfies_texts.specs.declared.signals.NamedSignals.{NamedSignals}

module _ (circuit : Circuit) (before : List Symbol) (s : Symbol) (ports : Bool) (name : List ℕ) where
  given_more : (literal : ℕ) → IsGiven circuit before ports name literal → IsGiven circuit (before ++ s ∷ []) ports name literal
  given_more literal (t, there, gives) = (t, Contains-append_left before (s ∷ []) t there, gives)

  given_last : (literal : ℕ) → Gives circuit ports name literal s → IsGiven circuit (before ++ s ∷ []) ports name literal
  given_last literal gives = (s, Contains-push before s, gives)

  given_cases : (literal : ℕ) → IsGiven circuit (before ++ s ∷ []) ports name literal
      → IsGiven circuit before ports name literal ⊎ Gives circuit ports name literal s
  given_cases literal (t, there, gives) =
      elim (Contains-push_cases before s t there) [
        | inl h ↦ inl (t, h, gives)
        | inr e ↦ inr (subst (λ u. Gives circuit ports name literal u) (sym e) gives)
      ]

  one_literal : (p q : ℕ) → Gives circuit ports name p s → Gives circuit ports name q s → p ≡ q
  one_literal p q g h = let same : Some p ≡ Some q = sym g.at ∙ h.at in cc

  -- it doesn't give the name
  pub seen_other : (found : NamedLiteral) → ((literal : ℕ) → ¬ Gives circuit ports name literal s) → IsLiteral circuit before ports name found
      → IsLiteral circuit (before ++ s ∷ []) ports name found
  seen_other Nowhere none seen = λ literal is.
      elim (given_cases literal is) [ inl h ↦ seen literal h | inr h ↦ none literal h ]
  seen_other (Only p) none seen = (
    given_more p seen.0,
    λ q is. elim (given_cases q is) [ inl h ↦ seen.1 q h | inr h ↦ absurd (none q h) ],
  )
  seen_other Twice none (p, q, apart, first, second) = (p, q, apart, given_more p first, given_more q second)

  -- it gives the name to this literal
  pub seen_this : (found : NamedLiteral) (literal : ℕ) → Gives circuit ports name literal s → IsLiteral circuit before ports name found
      → IsLiteral circuit (before ++ s ∷ []) ports name (also found literal)
  seen_this Nowhere literal gives seen = (
    given_last literal gives,
    λ q is. elim (given_cases q is) [ inl h ↦ absurd (seen q h) | inr h ↦ one_literal q literal h gives ],
  )
  seen_this (Only p) literal gives seen =
      elim (cases_Bool (eqb p literal)) [
        | inl e ↦
            let same : p ≡ literal = eqb-true p literal e in
            rw e (
              given_more p seen.0,
              λ q is. elim (given_cases q is) [ inl h ↦ seen.1 q h | inr h ↦ one_literal q literal h gives ∙ sym same ],
            )
        | inr e ↦ rw e (p, literal, eqb-false p literal e, given_more p seen.0, given_last literal gives)
      ]
  seen_this Twice literal gives (p, q, apart, first, second) = (p, q, apart, given_more p first, given_more q second)

-- the same for both, if the symbol has this kind and names a signal with this literal
kind_more : (circuit : Circuit) (before : List Symbol) (s : Symbol) (name : List ℕ) (signals : NamedSignals) (kind : Kind) (literal : ℕ)
    → s.kind ≡ kind → s.name ≡ name → literal_of circuit s ≡ Some literal → AreSignals circuit before name signals
    → AreSignals circuit (before ++ s ∷ []) name (noted signals kind literal)
kind_more circuit before s name signals input literal k n at seen = record {
  ports = seen_this circuit before s true name signals.ports literal (record { of_kind = ap is_port k; named = n; at = at }) seen.ports;
  latches = seen_other circuit before s false name signals.latches
      (λ l g. let no : true ≡ false = sym (ap is_port k) ∙ g.of_kind in cc no) seen.latches;
}
kind_more circuit before s name signals output literal k n at seen = record {
  ports = seen_this circuit before s true name signals.ports literal (record { of_kind = ap is_port k; named = n; at = at }) seen.ports;
  latches = seen_other circuit before s false name signals.latches
      (λ l g. let no : true ≡ false = sym (ap is_port k) ∙ g.of_kind in cc no) seen.latches;
}
kind_more circuit before s name signals latch literal k n at seen = record {
  ports = seen_other circuit before s true name signals.ports
      (λ l g. let no : false ≡ true = sym (ap is_port k) ∙ g.of_kind in cc no) seen.ports;
  latches = seen_this circuit before s false name signals.latches literal (record { of_kind = ap is_port k; named = n; at = at }) seen.latches;
}

none_more : (circuit : Circuit) (before : List Symbol) (s : Symbol) (name : List ℕ) (signals : NamedSignals)
    → ((ports : Bool) (literal : ℕ) → ¬ Gives circuit ports name literal s) → AreSignals circuit before name signals
    → AreSignals circuit (before ++ s ∷ []) name signals
none_more circuit before s name signals none seen = record {
  ports = seen_other circuit before s true name signals.ports (none true) seen.ports;
  latches = seen_other circuit before s false name signals.latches (none false) seen.latches;
}

if_more : (circuit : Circuit) (before : List Symbol) (s : Symbol) (name : List ℕ) (signals : NamedSignals) (found : Option ℕ)
    → literal_of circuit s ≡ found → s.name ≡ name → AreSignals circuit before name signals
    → AreSignals circuit (before ++ s ∷ []) name (noted_if signals s.kind found)
if_more circuit before s name signals None at n seen =
    none_more circuit before s name signals (λ ports l g. let no : None ≡ Some l = sym at ∙ g.at in cc no) seen
if_more circuit before s name signals (Some literal) at n seen = kind_more circuit before s name signals s.kind literal refl n at seen

pub signals_more : (circuit : Circuit) (before : List Symbol) (s : Symbol) (name : List ℕ) (signals : NamedSignals)
    → AreSignals circuit before name signals → AreSignals circuit (before ++ s ∷ []) name (noted_at circuit name s signals)
signals_more circuit before s name signals seen =
    elim (cases_Bool (bytes_eq s.name name)) [
      | inl e ↦ rw e (if_more circuit before s name signals (literal_of circuit s) refl ((bytes_eq-Decides s.name name).0 e) seen)
      | inr e ↦ rw e (none_more circuit before s name signals
          (λ ports l g. let no : true ≡ false = sym ((bytes_eq-Decides s.name name).1 g.named) ∙ e in cc no) seen)
    ]

-- no symbol is known yet
pub no_signals : (circuit : Circuit) (name : List ℕ) → AreSignals circuit [] name (signals_of Nowhere Nowhere)
no_signals circuit name = record { ports = λ l (t, there, gives). nowhere t there; latches = λ l (t, there, gives). nowhere t there }
  where
    nowhere : (t : Symbol) → Contains [] t → ⊥
    nowhere t there = absurd (omega arith)

-- ports come before latches
pub meaning_is : (circuit : Circuit) (symbols : List Symbol) (name : List ℕ) (ports latches : NamedLiteral)
    → IsLiteral circuit symbols true name ports → IsLiteral circuit symbols false name latches
    → IsMeaning circuit symbols name (meaning (signals_of ports latches))
meaning_is circuit symbols name Nowhere Nowhere p l = (p, l)
meaning_is circuit symbols name Nowhere (Only literal) p l = inr (p, l)
meaning_is circuit symbols name Nowhere Twice p l = inr (p, l)
meaning_is circuit symbols name (Only literal) latches p l = inl p
meaning_is circuit symbols name Twice latches p l = inl p
