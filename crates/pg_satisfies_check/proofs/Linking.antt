-- A lasso whose rows are right: what they say is so in each run.
use Rattle.std.proofs.Common.{◌≡◌, ℕ, zero, suc, ◌+◌, ◌<◌, Bool, true, false, List, [], ◌∷◌, Option, Some, None, length, get_or, map, replicate, refl, sym, ap, subst, ◌∙◌, arith, inl, inr}
use Rattle.std.specs.Bool.{OnTrue}
use Rattle.std.specs.declared.vec.Vec.{Vec}
use Rattle.std.specs.declared.alloc.Global.{Global}
use Rattle.std.proofs.lemmas.Bool.{cases_lt}
use Rattle.std.proofs.lemmas.List.{length-map, get_or-replicate}
use Rattle.pg_aiger.specs.declared.gate.Latch.{Latch}
use Rattle.pg_aiger.specs.Circuits.{Circuit, no_latch}
use Rattle.pg_aiger.specs.Runs.{Valuation, value, IsRun, HaveBits}
use Rattle.pg_aiger_netlist.specs.Steps.{spelt}
use Rattle.pg_aiger_netlist.proofs.Words.{spelt_bit}
use Rattle.pg_ltl.specs.NormalForms.{NormalForm, top, bottom, literal, both, either, next, until, release, Holds}
use Rattle.pg_means_look.specs.Lassos.{lasso}
use Rattle.pg_means_look.specs.Mirrors.Tables.{row_at, truth_at}
use Rattle.pg_means_look.specs.Mirrors.Places.{place_at, word_of}
use Rattle.pg_means_look.proofs.Lassos.{place_below, letter_at}
use Rattle.pg_satisfies_check.specs.declared.system.CircuitPart.{CircuitPart}
use Rattle.pg_satisfies_check.specs.Satisfaction.{IsEndlessRun, IsPartOf, holds_in, run_word}
use Rattle.pg_satisfies_check.specs.Certificates.{IsStep}
use Rattle.pg_satisfies_check.specs.Mirrors.Known.{IsKnown, IsBlank, Learns, known_at, literal_in}
use Rattle.pg_satisfies_check.specs.Mirrors.Steps.{circuit_of, spoken_of, view, IsSeen, Rows}
use Rattle.pg_satisfies_check.specs.Mirrors.Lassos.{AreTaken, IsStepWith, IsLink, AreLinked, IsKnownOn, IsToldOn, AreToldOn, is_true, truth_on, letters_of, off}
use Rattle.pg_satisfies_check.proofs.Slicing.{run_part}
use Rattle.pg_satisfies_check.proofs.Covering.{at_latch, at_proposition}
use Rattle.pg_satisfies_check.proofs.Cutting.{seen_map, known_blank, none_is}

-- ---- one link

pub bit_told : (u : Valuation) (inputs : List ℕ) (letter : List Bool) (k : ℕ) (b : Bool) → HaveBits u inputs (spelt letter) → k < length inputs
    → (k < length letter) × (get_or letter k false ≡ b) → value u (get_or inputs k 0) ≡ b
bit_told u inputs letter k b bits lt h = bits k lt ∙ sym (spelt_bit letter k h.0) ∙ h.1

pub link_by : (s : CircuitPart) (inputs : List ℕ) (letter : List Bool) (values blank_row : List (Option Bool)) (ok : Bool)
    (new read seen : List (Option Bool)) → IsBlank blank_row → Learns (IsStepWith s inputs letter values) blank_row ok new → read ≡ new
    → seen ≡ map (literal_in read) (spoken_of s) → IsLink s inputs letter values seen
link_by s inputs letter values blank_row ok new read seen blank learns same e u with_these =
    subst (λ r. IsKnown r (view (spoken_of s) u)) (sym e)
    (seen_map (spoken_of s) read u
    (subst (λ r. IsKnown r u) (sym same) (learns u with_these (known_blank blank_row u blank)).1))

pub link_less : (s : CircuitPart) (inputs : List ℕ) (letter : List Bool) (values row read seen : List (Option Bool)) → read ≡ seen
    → IsLink s inputs letter values seen → ((x : ℕ) (b : Bool) → known_at row x ≡ Some b → known_at read x ≡ Some b)
    → IsLink s inputs letter values row
link_less s inputs letter values row read seen same link less u with_these x b e =
    link u with_these x b (ap (λ r. known_at r x) (sym same) ∙ less x b e)

pub link_at : (s : CircuitPart) (inputs : List ℕ) (letter letter' : List Bool) (values values' row row' : List (Option Bool)) → letter ≡ letter'
    → values ≡ values' → row ≡ row' → IsLink s inputs letter values row → IsLink s inputs letter' values' row'
link_at s inputs letter letter' values values' row row' e f g h =
    subst (λ x. IsLink s inputs x values' row') e (subst (λ x. IsLink s inputs letter x row') f (subst (λ x. IsLink s inputs letter values x) g h))

-- ---- all links

some_same : (a b : Bool) → ◌≡◌ {A = Option Bool} (Some a) (Some b) → a ≡ b
some_same a b e = cc

number_at : (letters : List (Vec Bool Global)) (i : ℕ) → get_or (letters_of letters) i 0 ≡ spelt (row_at letters i)
number_at [] i = refl
number_at (x ∷ xs) zero = refl
number_at (x ∷ xs) (suc i) = number_at xs i

module _ (s : CircuitPart) (inputs : List ℕ) (letters : List (Vec Bool Global)) (rows : Rows) (back : ℕ)
    (linked : AreLinked s inputs letters rows back) (long : length rows ≡ length letters) (lt : back < length letters) (circuit : Circuit)
    (part : IsPartOf (circuit_of s) circuit) (same : circuit.inputs ≡ inputs) (run : ℕ → Valuation)
    (endless : IsEndlessRun circuit (lasso (letters_of letters) back) run) where
  abbrev place : ℕ → ℕ
  place t = place_at (length rows) back t

  own : (count : ℕ) → IsRun (circuit_of s) (lasso (letters_of letters) back) count run
  own count = run_part (circuit_of s) circuit part refl (lasso (letters_of letters) back) count run (endless count)

  step : (t : ℕ) → IsStep (circuit_of s) (run t)
  step t = record { constant = (own (suc t)).constant t (omega arith); gates = (own (suc t)).gates t (omega arith) }

  number : (t : ℕ) → lasso (letters_of letters) back t ≡ spelt (row_at letters (place t))
  number t =
      let count : length (letters_of letters) ≡ length letters = length-map letters (λ (letter : Vec Bool Global). spelt letter.items) in
      let alike : length (letters_of letters) ≡ length rows = omega arith in
      letter_at (letters_of letters) back (omega arith) t
      ∙ ap (λ n. get_or (letters_of letters) (place_at n back t) 0) alike
      ∙ number_at letters (place t)

  bits : (t : ℕ) → HaveBits (run t) inputs (spelt (row_at letters (place t)))
  bits t =
      subst (λ (ins : List ℕ). HaveBits (run t) ins (spelt (row_at letters (place t)))) same
      (subst (λ n. HaveBits (run t) circuit.inputs n) (number t) ((endless (suc t)).inputs t (omega arith)))

  below : (t : ℕ) → place t < length rows
  below t = place_below (length rows) back (omega arith) t

  -- each row is right at each step at its place
  pub seen : (t : ℕ) → IsSeen s (row_at rows (place t)) (run t)
  seen zero = linked.first (run 0) (record {
    step = step 0;
    inputs_are = bits 0;
    latches = λ j b few e.
        (own 1).first j (omega arith) few
        ∙ some_same false b (sym (get_or-replicate (length s.latches.items) j (Some false) None few) ∙ e);
  })
  seen (suc t) = linked.later (place t) (below t) (run (suc t)) (record {
    step = step (suc t);
    inputs_are = bits (suc t);
    latches = λ j b few e.
        (own (suc (suc t))).later t j (omega arith) few ∙ sym (at_latch s (run t) j few) ∙ seen t j b e;
  })

-- ---- formulas on words that agree

module _ (s : CircuitPart) (rows : Rows) (word other : ℕ → ℕ → Bool) (agree : (t p : ℕ) → IsToldOn s rows p → word t p ≡ other t p) where
  abbrev Same : NormalForm → ℕ → Type 0
  Same f t = (Holds word f t → Holds other f t) × (Holds other f t → Holds word f t)

  pub holds_same : (f : NormalForm) → AreToldOn s rows f → (t : ℕ) → Same f t
  holds_same top k t = (λ h. h, λ h. h)
  holds_same bottom k t = (λ h. h, λ h. h)
  holds_same (literal p value) k t = (λ h. sym (agree t p k) ∙ h, λ h. agree t p k ∙ h)
  holds_same (both f g) k t = (
    λ h. ((holds_same f k.0 t).0 h.0, (holds_same g k.1 t).0 h.1),
    λ h. ((holds_same f k.0 t).1 h.0, (holds_same g k.1 t).1 h.1),
  )
  holds_same (either f g) k t = (
    λ h none. h (λ a. none.0 ((holds_same f k.0 t).0 a), λ b. none.1 ((holds_same g k.1 t).0 b)),
    λ h none. h (λ a. none.0 ((holds_same f k.0 t).1 a), λ b. none.1 ((holds_same g k.1 t).1 b)),
  )
  holds_same (next f) k t = holds_same f k (t + 1)
  holds_same (until f g) k t = (
    λ h none. h (λ n le lasts b. none n le (λ r from before. (holds_same f k.0 r).0 (lasts r from before)) ((holds_same g k.1 n).0 b)),
    λ h none. h (λ n le lasts b. none n le (λ r from before. (holds_same f k.0 r).1 (lasts r from before)) ((holds_same g k.1 n).1 b)),
  )
  holds_same (release f g) k t = (
    λ h n le lasts. (holds_same g k.1 n).0 (h n le (λ r from before a. lasts r from before ((holds_same f k.0 r).0 a))),
    λ h n le lasts. (holds_same g k.1 n).1 (h n le (λ r from before a. lasts r from before ((holds_same f k.0 r).1 a))),
  )

-- ---- what is known of propositions

truth_in : (rows : Rows) (k i : ℕ) → i < length rows → get_or (truth_on rows k) i false ≡ is_true (known_at (row_at rows i) k)
truth_in [] k i lt = absurd (omega arith)
truth_in (r ∷ rs) k zero lt = refl
truth_in (r ∷ rs) k (suc i) lt = truth_in rs k i (omega arith)

module _ (s : CircuitPart) (inputs : List ℕ) (letters : List (Vec Bool Global)) (rows : Rows) (back : ℕ)
    (linked : AreLinked s inputs letters rows back) (long : length rows ≡ length letters) (lt : back < length letters)
    (truths : List (Vec Bool Global)) (places : List ℕ) (count : length places ≡ length letters)
    (numbered : (i : ℕ) → i < length letters → get_or places i 0 ≡ i)
    (true_on : (p : ℕ) → p < length s.literals.items → row_at truths p ≡ truth_on rows (length s.latches.items + p)) where
  module _ (circuit : Circuit) (run : ℕ → Valuation) (part : IsPartOf (circuit_of s) circuit) (same : circuit.inputs ≡ inputs)
      (endless : IsEndlessRun circuit (lasso (letters_of letters) back) run) where
    at : (t : ℕ) → lasso places back t ≡ place_at (length rows) back t
    at t =
        let alike : length places ≡ length rows = omega arith in
        let inside : place_at (length rows) back t < length rows = place_below (length rows) back (omega arith) t in
        letter_at places back (omega arith) t ∙ ap (λ n. get_or places (place_at n back t) 0) alike
        ∙ numbered (place_at (length rows) back t) (omega arith)

    agrees : (t p : ℕ) → IsToldOn s rows p → word_of truths places back t p ≡ run_word s.literals.items run t p
    agrees t p told =
        let i = place_at (length rows) back t in
        let inside : i < length rows = place_below (length rows) back (omega arith) t in
        let known = told.1 i inside in
        ap (truth_at truths p) (at t) ∙ ap (λ (bs : List Bool). get_or bs i false) (true_on p told.0)
        ∙ truth_in rows (length s.latches.items + p) i inside ∙ ap is_true known.1
        ∙ sym (seen s inputs letters rows back linked long lt circuit part same run endless t (length s.latches.items + p) known.0 known.1)
        ∙ at_proposition s (run t) p (length s.latches.items + p) refl

    pub holds_by : (f : NormalForm) → AreToldOn s rows f → Holds (word_of truths places back) f 0 → Holds (run_word s.literals.items run) f 0
    holds_by f told h = (holds_same s rows (word_of truths places back) (run_word s.literals.items run) agrees f told 0).0 h
