-- A text spells one formula, or stops making sense at one byte.
use Rattle.std.proofs.Common.{◌≡◌, ℕ, suc, ◌+◌, ◌<◌, ◌≤◌, inl, inr, List, [], ◌∷◌, ◌++◌, length, get_or, take, drop, Option, None, refl}
use Rattle.std.proofs.Common.{sym, subst, ap, ◌∙◌, arith, append_assoc, append-nil}
use Rattle.std.specs.Prelude.{slice_get}
use Rattle.std.specs.List.{count_by}
use Rattle.std.proofs.Math.Seq.{take-length}
use Rattle.std.proofs.lemmas.Bool.{cases_lt}
use Rattle.std.proofs.lemmas.List.{take-append-drop}
use Rattle.std.proofs.lemmas.Option.{slice_get-get_or, slice_get_past}
use Rattle.pg_list_lemmas.proofs.Steps.{some_is, none_is_some}
use Rattle.pg_ltl.specs.declared.token.FormulaToken.{FormulaToken}
use Rattle.pg_ltl.specs.declared.fault.FormulaFault.TheVariants.{Syntax, TooManyOperators}
use Rattle.pg_ltl.specs.declared.noting.Tokens.{Tokens}
use Rattle.pg_ltl.specs.declared.noting.Stop.{Stop}
use Rattle.pg_ltl.specs.declared.noting.Stop.TheVariants.{End, NoWord, Overfull}
use Rattle.pg_ltl.specs.Formulas.{Formula}
use Rattle.pg_ltl.specs.FormulaTexts.{AreTokensOf, BeginsOne, BeginsNone}
use Rattle.pg_ltl.specs.Words.{Word, behind_blanks, word_at, Spells, Begins}
use Rattle.pg_ltl.specs.Texts.{Noted, note, noted, is_operator, Spelt, SpellsNone, IsWrong, StopsAt, IsRefused}
use Rattle.pg_ltl.specs.Mirrors.Machine.{parse}
use Rattle.pg_ltl.specs.Mirrors.Notes.{noted_in, IsTextOf, StopsFor, stop_fault, fault_or}
use Rattle.pg_ltl.specs.Mirrors.Readings.{IsStopped}
use Rattle.pg_ltl.proofs.Machine.{parse_again}
use Rattle.pg_ltl.proofs.Spelling.{placed_begins, placed_many, placed_at, begins_only, begins_all, noted-push, noted-append, noted-take}
use Rattle.pg_ltl.proofs.Spelling.{length-noted, tokens_grow, names_grow, words_once}

-- ---- one reading

tokens_once : (ts us : List FormulaToken) (f g : Formula) → ts ≡ us → AreTokensOf ts f → AreTokensOf us g → f ≡ g
tokens_once ts us f g e a b =
    some_is f g (sym (parse_again f a.ended a.grouped) ∙ ap parse (sym a.is ∙ e ∙ b.is) ∙ parse_again g b.ended b.grouped)

pub one_reading : (bytes : List ℕ) (names others : List (List ℕ)) (f g : Formula) → Spelt bytes names f → Spelt bytes others g
    → (names ≡ others) × (f ≡ g)
one_reading bytes names others f g a b =
    let words = words_once bytes a.words b.words a.spelt b.spelt in (
      sym a.named ∙ ap (λ (ws : List Word). (noted ws).names) words ∙ b.named,
      tokens_once (noted a.words).tokens (noted b.words).tokens f g (ap (λ (ws : List Word). (noted ws).tokens) words) a.tokens b.tokens,
    )

-- ---- what is read

module _ (bytes : List ℕ) (t : Tokens) (stop : Stop) (end : ℕ) (text : IsTextOf bytes t stop end) where
  abbrev words : List Word
  words = text.has.words

  abbrev is : noted words ≡ noted_in t
  is = text.has.is

  begins : Begins bytes words text.rest
  begins = placed_begins (length bytes) bytes words t.offsets.items text.rest text.has.placed

  -- the tokens of what is spelt begin with these
  all_tokens : (all : List Word) → Spells bytes all → (more : List FormulaToken) × ((noted all).tokens ≡ t.tokens.items ++ more)
  all_tokens all spelt =
      let o = begins_only bytes words text.rest all begins spelt in
      let grown = tokens_grow o.0 (noted words) in (
        grown.0,
        ap (λ (ws : List Word). (noted ws).tokens) o.1 ∙ ap (λ (n : Noted). n.tokens) (noted-append words o.0) ∙ grown.1
            ∙ ap (λ (n : Noted). n.tokens ++ grown.0) is,
      )

  none_begun : (k : ℕ) → BeginsNone (take k t.tokens.items) → SpellsNone bytes
  none_begun k none names f spelt =
      let all = all_tokens spelt.words spelt.spelt in
      let parts : (noted spelt.words).tokens ≡ take k t.tokens.items ++ (drop k t.tokens.items ++ all.0) =
      all.1 ∙ ap (λ (ts : List FormulaToken). ts ++ all.0) (sym (take-append-drop k t.tokens.items))
      ∙ append_assoc (take k t.tokens.items) (drop k t.tokens.items) all.0 in
      none (drop k t.tokens.items ++ all.0) f (subst (λ (ts : List FormulaToken). AreTokensOf ts f) parts spelt.tokens)

  -- all tokens are those of what is spelt
  same_tokens : behind_blanks text.rest ≡ [] → (all : List Word) → Spells bytes all → noted all ≡ noted_in t
  same_tokens e all spelt = ap noted (words_once bytes all words spelt (begins_all bytes words text.rest begins e)) ∙ is

  too_many_names : 65535 < length (noted_in t).names → SpellsNone bytes
  too_many_names many names f spelt =
      let o = begins_only bytes words text.rest spelt.words begins spelt.spelt in
      let grown : length (noted words).names ≤ length (noted spelt.words).names =
      subst (λ (n : Noted). length (noted words).names ≤ length n.names)
      (sym (ap noted o.1 ∙ noted-append words o.0)) (names_grow o.0 (noted words)) in
      let few : length (noted spelt.words).names ≤ 65535 = subst (λ (ns : List (List ℕ)). length ns ≤ 65535) (sym spelt.named) spelt.few_names in
      let same : length (noted words).names ≡ length (noted_in t).names = ap (λ (n : Noted). length n.names) is in
      omega (arith, many, grown, few, same)

  no_words : (behind_blanks text.rest ≡ [] → ⊥) → word_at (behind_blanks text.rest) ≡ None → SpellsNone bytes
  no_words some_left none names f spelt = let o = begins_only bytes words text.rest spelt.words begins spelt.spelt in never o.0 o.2
    where
      never : (more : List Word) → Spells text.rest more → ⊥
      never [] h = some_left h
      never (w ∷ more) h = none_is_some (w, h.0) (sym none ∙ h.1)

  whole_before : BeginsOne t.tokens.items → BeginsOne (noted words).tokens
  whole_before before = subst (λ (n : Noted). BeginsOne n.tokens) (sym is) before

  -- the words stop where no word begins
  stops_there : BeginsOne t.tokens.items → word_at (behind_blanks text.rest) ≡ None → StopsAt bytes end
  stops_there before none = record {
    words = words;
    rest = text.rest;
    begins = begins;
    there = text.there;
    before = whole_before before;
    wrong = subst (IsWrong (noted words)) (sym none) tt;
  }

  none_at_end : (bs : List ℕ) → bs ≡ [] → word_at bs ≡ None
  unfolding word_at
  none_at_end bs e = ap word_at e

  pub stop_refused : BeginsOne t.tokens.items → (stop ≡ End → (f : Formula) → AreTokensOf t.tokens.items f → ⊥)
      → IsRefused bytes (stop_fault stop end)
  stop_refused before none = by_stop stop refl
    where
      by_stop : (s : Stop) → stop ≡ s → IsRefused bytes (stop_fault s end)
      by_stop End e =
          let stops : StopsFor End text.rest (noted_in t) = subst (λ (s : Stop). StopsFor s text.rest (noted_in t)) e text.stops in (
            λ names f spelt. none e f (subst (λ (n : Noted). AreTokensOf n.tokens f) (same_tokens stops.0 spelt.words spelt.spelt) spelt.tokens),
            stops_there before (none_at_end (behind_blanks text.rest) stops.0),
          )
      by_stop NoWord e =
          let stops : StopsFor NoWord text.rest (noted_in t) = subst (λ (s : Stop). StopsFor s text.rest (noted_in t)) e text.stops in
          (no_words stops.0 stops.1, stops_there before stops.1)
      by_stop Overfull e =
          let stops : StopsFor Overfull text.rest (noted_in t) = subst (λ (s : Stop). StopsFor s text.rest (noted_in t)) e text.stops in (
            too_many_names stops,
            record {
              words = words;
              rest = text.rest;
              begins = begins;
              before = whole_before before;
              many = subst (λ (n : Noted). 65535 < length n.names) (sym is) stops;
            },
          )

  first_tokens : (k : ℕ) → k ≤ length words → (noted (take k words)).tokens ≡ take k t.tokens.items
  first_tokens k le = noted-take words k le ∙ ap (λ (n : Noted). take k n.tokens) is

  -- a token that may not stand there
  token_refused : (place : ℕ) → IsStopped t.tokens.items place → place < length t.offsets.items
      → IsRefused bytes (Syntax (get_or t.offsets.items place 0))
  token_refused place stopped lt =
      let many = placed_many (length bytes) bytes words t.offsets.items text.rest text.has.placed in
      let counted : length t.tokens.items ≡ length words =
      ap (λ (n : Noted). length n.tokens) (sym is) ∙ length-noted words in
      let stuck : BeginsNone (take (place + 1) t.tokens.items) = stopped.stuck (omega (arith, lt, many, counted)) in
      let at = placed_at (length bytes) bytes words t.offsets.items text.rest place 0 text.has.placed lt in
      let one : place + 1 ≡ suc place = omega arith in
      let longer : (note (noted (take place words)) at.word).tokens ≡ take (place + 1) t.tokens.items =
      ap (λ (n : Noted). n.tokens) (sym (noted-push (take place words) at.word))
      ∙ ap (λ (ws : List Word). (noted ws).tokens) (sym at.next)
      ∙ first_tokens (suc place) (omega (arith, lt, many))
      ∙ ap (λ (k : ℕ). take k t.tokens.items) (sym one) in (
        none_begun (place + 1) stuck,
        record {
          words = take place words;
          rest = at.rest;
          begins = at.begins;
          there = at.there;
          before = subst BeginsOne (sym (first_tokens place (omega (arith, lt, many)))) stopped.before;
          wrong = subst (IsWrong (noted (take place words))) (sym at.is) (subst BeginsNone (sym longer) stuck);
        },
      )

  pub misplaced_refused : (place : ℕ) → IsStopped t.tokens.items place → ((f : Formula) → AreTokensOf t.tokens.items f → ⊥)
      → IsRefused bytes (fault_or stop end (slice_get t.offsets.items place))
  misplaced_refused place stopped none = elim (cases_lt place (length t.offsets.items)) [
    | inl lt ↦ subst (λ (o : Option ℕ). IsRefused bytes (fault_or stop end o)) (sym (slice_get-get_or t.offsets.items place 0 lt))
        (token_refused place stopped lt)
    | inr ge ↦
        let many = placed_many (length bytes) bytes words t.offsets.items text.rest text.has.placed in
        let counted : length t.tokens.items ≡ length words = ap (λ (n : Noted). length n.tokens) (sym is) ∙ length-noted words in
        let within = stopped.within in
        let last : place ≡ length t.tokens.items = omega (arith, ge, many, counted, within) in
        let before : BeginsOne t.tokens.items = subst BeginsOne (ap (λ (k : ℕ). take k t.tokens.items) last ∙ take-length t.tokens.items) stopped.before in
        subst (λ (o : Option ℕ). IsRefused bytes (fault_or stop end o)) (sym (slice_get_past t.offsets.items place ge)) (stop_refused before (λ _. none))
  ]

  pub begun : (f : Formula) → AreTokensOf t.tokens.items f → BeginsOne t.tokens.items
  begun f tokens = record { more = []; formula = f; is = subst (λ (ts : List FormulaToken). AreTokensOf ts f) (sym (append-nil t.tokens.items)) tokens }

  pub spelt_there : (f : Formula) → stop ≡ End → AreTokensOf t.tokens.items f → count_by is_operator t.tokens.items ≤ 4096
      → Spelt bytes (noted_in t).names f
  spelt_there f e tokens few =
      let stops : StopsFor End text.rest (noted_in t) = subst (λ (s : Stop). StopsFor s text.rest (noted_in t)) e text.stops in
      record {
        words = words;
        spelt = begins_all bytes words text.rest begins stops.0;
        named = ap (λ (n : Noted). n.names) is;
        tokens = subst (λ (n : Noted). AreTokensOf n.tokens f) (sym is) tokens;
        few_names = stops.1;
        few_operators = subst (λ (n : Noted). count_by is_operator n.tokens ≤ 4096) (sym is) few;
      }

  pub operators_refused : (f : Formula) → stop ≡ End → AreTokensOf t.tokens.items f → 4096 < count_by is_operator t.tokens.items
      → IsRefused bytes TooManyOperators
  operators_refused f e tokens many =
      let stops : StopsFor End text.rest (noted_in t) = subst (λ (s : Stop). StopsFor s text.rest (noted_in t)) e text.stops in (
        λ names g spelt.
            let few : count_by is_operator t.tokens.items ≤ 4096 =
            subst (λ (n : Noted). count_by is_operator n.tokens ≤ 4096) (same_tokens stops.0 spelt.words spelt.spelt) spelt.few_operators in
            omega (arith, many, few),
        record {
          words = words;
          spelt = begins_all bytes words text.rest begins stops.0;
          formula = f;
          tokens = subst (λ (n : Noted). AreTokensOf n.tokens f) (sym is) tokens;
          many = subst (λ (n : Noted). 4096 < count_by is_operator n.tokens) (sym is) many;
        },
      )
