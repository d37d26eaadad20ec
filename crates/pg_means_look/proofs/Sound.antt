-- Formulas on a lasso: where a value is true the formula holds.
use Rattle.std.proofs.Common.{◌≡◌, ◌↔◌, true≢false, ℕ, zero, suc, ◌+◌, ◌-◌, ◌<◌, ◌⊎◌, inl, inr, Bool, true, false, List, [], ◌∷◌, ◌++◌, length, get_or, set, replicate, arith, refl, sym, ap, subst, ◌∙◌, get_or-set_other}
use Rattle.std.proofs.lemmas.Bool.{cases_lt, cases_eq}
use Rattle.std.specs.Prelude.{All, IsTrue}
use Rattle.std.specs.Bool.{OnTrue}
use Rattle.std.specs.declared.vec.Vec.{Vec}
use Rattle.std.specs.declared.alloc.Global.{Global}
use Rattle.std.proofs.lemmas.Bool.{false≢true}
use Rattle.std.proofs.lemmas.List.{get_or_append_left, get_or_push, get_or_past, get_or-replicate, length-replicate, length_push}
use Rattle.pg_ltl.specs.declared.normal.NormalNode.{NormalNode}
use Rattle.pg_ltl.specs.Formulas.{Lasts}
use Rattle.pg_ltl.specs.Mirrors.Nodes.{normal_at}
use Rattle.pg_ltl.specs.NormalForms.{NormalForm, literal, both, either, next, until, release, Holds}
use Rattle.pg_means_look.specs.declared.automaton.ParityAutomaton.{ParityAutomaton}
use Rattle.pg_means_look.specs.Automata.{IsAccepted}
use Rattle.pg_means_look.specs.Lassos.{lasso}
use Rattle.pg_means_look.specs.Mirrors.Views.{automaton_of}
use Rattle.pg_means_look.specs.Mirrors.Tables.{row_at, truth_at}
use Rattle.pg_means_look.specs.Mirrors.Choices.{part}
use Rattle.pg_means_look.specs.Mirrors.Places.{behind, place_at, value_at, word_of, IsSound, AreSound, IsClosed, IsShown}
use Rattle.pg_means_look.proofs.Lassos.{place_below, letter_at, lasso_within}
use Rattle.pg_means_look.proofs.Steps.{rows_push}

until_now : (word : ℕ → ℕ → Bool) (f g : NormalForm) (t : ℕ) → Holds word g t → Holds word (until f g) t
until_now word f g t now none = none t (omega arith) (λ r from before. absurd (omega arith)) now

until_later : (word : ℕ → ℕ → Bool) (f g : NormalForm) (t : ℕ) → Holds word f t → Holds word (until f g) (suc t) → Holds word (until f g) t
until_later word f g t now later none =
    later (λ s le lasts here. none s (omega arith) (λ r from before. elim (cases_lt t r) [
      | inl lt ↦ lasts r (omega arith) before
      | inr ge ↦ let e : t ≡ r = omega arith in subst (λ n. Holds word f n) e now
    ]) here)

module _ (count back : ℕ) (word : ℕ → ℕ → Bool) (f g : NormalForm) (left right : List Bool) (fs : IsSound count back word f left)
    (gs : IsSound count back word g right) where
  -- one more true value of an Until
  pub until_step : (values : List Bool) (i : ℕ) → IsSound count back word (until f g) values
      → (value_at right i ≡ true) ⊎ ((value_at left i ≡ true) × (value_at values (behind count back i) ≡ true))
      → IsSound count back word (until f g) (set values i true)
  until_step values i sound why t now = elim (cases_eq (place_at count back t) i) [
    | inl e ↦ elim why [
      | inl is ↦ until_now word f g t (gs t (ap (value_at right) e ∙ is))
      | inr is ↦
          until_later word f g t (fs t (ap (value_at left) e ∙ is.0))
          (sound (suc t) (ap (λ n. value_at values (behind count back n)) e ∙ is.1))
    ]
    | inr ne ↦ sound t (sym (get_or-set_other values i (place_at count back t) true false ne) ∙ now)
  ]

  pub both_sound : (values : List Bool) → ((i : ℕ) → value_at values i ≡ true → (value_at left i ≡ true) × (value_at right i ≡ true))
      → IsSound count back word (both f g) values
  both_sound values h t now = let k = h (place_at count back t) now in (fs t k.0, gs t k.1)

  pub either_sound : (values : List Bool) → ((i : ℕ) → value_at values i ≡ true → (value_at left i ≡ true) ⊎ (value_at right i ≡ true))
      → IsSound count back word (either f g) values
  either_sound values h t now none = elim (h (place_at count back t) now) [
    | inl k ↦ none.0 (fs t k)
    | inr k ↦ none.1 (gs t k)
  ]

  pub next_sound : (values : List Bool) → ((i : ℕ) → value_at values i ≡ true → value_at left (behind count back i) ≡ true)
      → IsSound count back word (next f) values
  next_sound values h t now =
      let one : suc t ≡ t + 1 = omega arith in subst (λ n. Holds word f n) one (fs (suc t) (h (place_at count back t) now))

  module _ (values : List Bool) (lt : back < count) (long : length values ≡ count) (closed : IsClosed back left right values) where
    released : (d t : ℕ) → value_at values (place_at count back t) ≡ true → Lasts (λ r. ¬ Holds word f r) t (t + d) → Holds word g (t + d)
    released zero t now lasts =
        let below : place_at count back t < count = place_below count back lt t in
        let one : t ≡ t + 0 = omega arith in
        subst (λ n. Holds word g n) one (gs t (closed (place_at count back t) (omega arith) now).0)
    released (suc d) t now lasts =
        let below : place_at count back t < count = place_below count back lt t in
        let on : suc t + d ≡ t + suc d = omega arith in
        elim (closed (place_at count back t) (omega arith) now).1 [
          | inl here ↦ absurd (lasts t (omega arith) (omega arith) (fs t here))
          | inr later ↦
              let there : value_at values (behind count back (place_at count back t)) ≡ true =
              subst (λ n. value_at values (behind n back (place_at count back t)) ≡ true) long later in
              subst (λ n. Holds word g n) on (released d (suc t) there (λ r from before. lasts r (omega arith) (omega arith)))
        ]

    pub release_sound : IsSound count back word (release f g) values
    release_sound t now s le lasts =
        let e : t + (s - t) ≡ s = omega arith in
        subst (λ n. Holds word g n) e (released (s - t) t now (λ r from before. lasts r from (omega arith)))

-- ---- lists of values

pub values_push : (P : ℕ → Type 0) (old new : List Bool) (b : Bool) → new ≡ old ++ b ∷ [] → ((i : ℕ) → value_at old i ≡ true → P i)
    → (b ≡ true → P (length old)) → (i : ℕ) → value_at new i ≡ true → P i
values_push P old new b e before last i now = elim (cases_lt i (length old)) [
  | inl lt ↦ before i (sym (ap (λ (xs : List Bool). value_at xs i) e ∙ get_or_append_left old (b ∷ []) false i lt) ∙ now)
  | inr ge ↦ elim (cases_eq i (length old)) [
    | inl at ↦
        subst P (sym at)
        (last (sym (ap (λ (xs : List Bool). value_at xs (length old)) e ∙ get_or_push old b false (length old) refl)
        ∙ subst (λ n. value_at new n ≡ true) at now))
    | inr ne ↦
        let long : length new ≡ length old + 1 = ap length e ∙ length_push old b in
        absurd (false≢true (sym (get_or_past new i false (omega (arith, ne))) ∙ now))
  ]
]

pub literal_sound : (truths : List (Vec Bool Global)) (letters : List ℕ) (back p : ℕ) (so : Bool) (values : List Bool) → back < length letters
    → ((i : ℕ) → value_at values i ≡ true → (i < length letters) × (truth_at truths p (get_or letters i 0) ≡ so))
    → IsSound (length letters) back (word_of truths letters back) (literal p so) values
literal_sound truths letters back p so values lt h t now =
    ap (truth_at truths p) (letter_at letters back lt t) ∙ (h (place_at (length letters) back t) now).1

module _ (count back : ℕ) (word : ℕ → ℕ → Bool) (forms : List NormalForm) (rows : List (Vec Bool Global))
    (are : AreSound count back word forms rows) where
  pub row_sound : (a : ℕ) (xs : List Bool) → a < length rows → xs ≡ row_at rows a → IsSound count back word (part forms a) xs
  row_sound a xs lt e = subst (IsSound count back word (part forms a)) (sym e) (are a lt)

  -- one more formula
  pub sound_push : (seen new : List (Vec Bool Global)) (values : Vec Bool Global) (node : NormalNode) → seen ≡ rows → new ≡ rows ++ values ∷ []
      → (AreSound count back word forms seen → part forms (length seen) ≡ normal_at forms node
      → IsSound count back word (part forms (length seen)) values.items)
      → part forms (length rows) ≡ normal_at forms node → AreSound count back word forms new
  sound_push seen new values node s e made at =
      rows_push rows (λ k xs. IsSound count back word (part forms k) xs) values new e are
      (subst (λ (rs : List (Vec Bool Global)). AreSound count back word forms rs → part forms (length rs) ≡ normal_at forms node
      → IsSound count back word (part forms (length rs)) values.items) s made are at)

pub on_true_at : (b c : Bool) (P : Type 0) → b ≡ c → (c ≡ true → P) → OnTrue b P
on_true_at true c P e f = f (sym e)
on_true_at false c P e f = tt

none_true : (count i : ℕ) → ¬ (value_at (replicate count false) i ≡ true)
none_true count i now = elim (cases_lt i count) [
  | inl lt ↦ false≢true (sym (get_or-replicate count i false false lt) ∙ now)
  | inr ge ↦
      let long : length (replicate count false) ≡ count = length-replicate count false in
      false≢true (sym (get_or_past (replicate count false) i false (omega arith)) ∙ now)
]

pub nothing_sound : (count back : ℕ) (word : ℕ → ℕ → Bool) (f : NormalForm) (values : List Bool) (n : ℕ) → values ≡ replicate n false
    → IsSound count back word f values
nothing_sound count back word f values n e t now =
    absurd (none_true n (place_at count back t) (sym (ap (λ (xs : List Bool). value_at xs (place_at count back t)) e) ∙ now))

-- what keeps an Until sound
abbrev pub Passes : ℕ → List Bool → List Bool → List Bool → List Bool → Type 0
Passes back left right old new =
    (word : ℕ → ℕ → Bool) (f g : NormalForm) → IsSound (length old) back word f left → IsSound (length old) back word g right
    → IsSound (length old) back word (until f g) old → IsSound (length old) back word (until f g) new

pub passed : (count back : ℕ) (left right none once twice : List Bool) → none ≡ replicate count false → Passes back left right none once
    → length once ≡ length none → Passes back left right once twice → (word : ℕ → ℕ → Bool) (f g : NormalForm)
    → IsSound count back word f left → IsSound count back word g right → IsSound count back word (until f g) twice
passed count back left right none once twice e first long second word f g fs gs =
    let n : count ≡ length none = sym (ap length e ∙ length-replicate count false) in
    let m : count ≡ length once = n ∙ sym long in
    let one = first word f g (subst (λ k. IsSound k back word f left) n fs) (subst (λ k. IsSound k back word g right) n gs)
    (nothing_sound (length none) back word (until f g) none count e) in
    let one' = subst (λ k. IsSound k back word (until f g) once) (sym long) one in
    subst (λ k. IsSound k back word (until f g) twice) (sym m)
    (second word f g (subst (λ k. IsSound k back word f left) m fs) (subst (λ k. IsSound k back word g right) m gs) one')

pub shown_by : (a : ParityAutomaton) (form : NormalForm) (parity : ℕ) (letters : List ℕ) (back : ℕ) (says held : Bool)
    (truths : List (Vec Bool Global)) → back < length letters → All (λ l. l < a.letters) letters
    → IsTrue says ↔ IsAccepted (automaton_of a) (lasso letters back) → (parity ≡ 0 → says ≡ true) → (parity ≡ 1 → says ≡ false)
    → truths ≡ a.truths.items → OnTrue held (Holds (word_of truths letters back) form 0)
    → OnTrue held (IsShown (automaton_of a) form parity letters back)
shown_by a form parity letters back says false truths lt within accepts even odd e h = tt
shown_by a form parity letters back says true truths lt within accepts even odd e h =
    record {
      comes_round = lt;
      within = lasso_within letters back a.letters lt within;
      accepted = λ is. accepts.0 (even is);
      rejected = λ is accepted. true≢false (sym (accepts.1 accepted) ∙ odd is);
      holds = subst (λ (ts : List (Vec Bool Global)). Holds (word_of ts letters back) form 0) e h;
    }

pub why_until : (right left later r l t : Bool) → r ≡ right → l ≡ left → t ≡ later → (r ≡ true) ⊎ ((l ≡ true) × (t ≡ true))
    → (right ≡ true) ⊎ ((left ≡ true) × (later ≡ true))
why_until right left later r l t er el et (inl h) = inl (sym er ∙ h)
why_until right left later r l t er el et (inr h) = inr (sym el ∙ h.0, sym et ∙ h.1)
