-- What a filled table answers.
use Rattle.pg_hoa.proofs.Common.{◌≡◌, ℕ, zero, suc, ◌+◌, ◌*◌, ◌/◌, ◌%◌, ◌<◌, ◌≤◌, true, false, cond, ◌&&◌, ltb, List, [], ◌∷◌, length, map}
use Rattle.pg_hoa.proofs.Common.{get_or, replicate, None, ap, subst, ◌∙◌, arith, Decides-ltb, div-mul-add, mod-mul-add, mul-add-lt}
use Rattle.pg_hoa.proofs.Common.{div_below, mod_below, div-add-mod', mul-le, length-replicate, get_or-replicate, Shape, Table, Step, Agree}
use Rattle.pg_hoa.proofs.Common.{head, KeptLine, numbered, Stage, Leads, IsFilled, Adds, at_lines, kept_steps, IsTableOf, IsFirstConflict}
use Rattle.pg_hoa.proofs.Common.{truth}
use Rattle.pg_hoa.proofs.TableWords.{truth_none}
use Rattle.pg_hoa.proofs.TableFilling.{nothing_yet}

leads_head : (t : Stage) (n : ℕ) (steps : List Step) → Leads t n steps → numbered t.steps t.lists n ≡ head steps
leads_head t n [] h = ap (numbered t.steps t.lists) h
leads_head t n (s ∷ steps) h = h

-- what lines give at the slot of a state and letter
at_place : {A : Type 0} (f : ℕ → ℕ → A) (state letters letter : ℕ) → letter < letters
    → f ((state * letters + letter) / letters) ((state * letters + letter) % letters) ≡ f state letter
at_place f state letters letter h = ap (λ q. f q ((state * letters + letter) % letters)) (div-mul-add state letters letter h)
    ∙ ap (f state) (mod-mul-add state letters letter h)

pub found_table : (shape : Shape) (lines : List KeptLine) (states letters : ℕ) (t : Stage) (table : Table)
    → IsFilled shape t (at_lines letters lines) → length t.slots ≡ states * letters → length t.slots ≤ t.conflict → table.states ≡ states
    → table.letters ≡ letters → table.slots.items ≡ t.slots → table.steps.items ≡ t.steps → map (λ v. v.items) table.lists.items ≡ t.lists
    → IsTableOf shape lines states letters table
found_table shape lines states letters t table f many none a b c d e = record {
  states_are = a;
  letters_are = b;
  next_is = λ state letter h k.
      let place : state * letters + letter < length t.slots =
      omega (arith, many, mul-add-lt state letters letter states h k, mul_turned states letters) in
      let in_states : ltb state table.states ≡ true = (Decides-ltb state table.states).1 (omega (arith, h, a)) in
      let in_letters : ltb letter table.letters ≡ true = (Decides-ltb letter table.letters).1 (omega (arith, k, b)) in
      ap (λ v. cond (v && ltb letter table.letters) (numbered table.steps.items (map (λ v. v.items) table.lists.items)
      (get_or table.slots.items (state * table.letters + letter) 0)) None) in_states
      ∙ ap (λ v. cond v (numbered table.steps.items (map (λ v. v.items) table.lists.items)
      (get_or table.slots.items (state * table.letters + letter) 0)) None) in_letters
      ∙ ap (λ l. numbered l (map (λ v. v.items) table.lists.items) (get_or table.slots.items (state * table.letters + letter) 0)) d
      ∙ ap (λ l. numbered t.steps l (get_or table.slots.items (state * table.letters + letter) 0)) e
      ∙ ap (λ l. numbered t.steps t.lists (get_or l (state * table.letters + letter) 0)) c
      ∙ ap (λ n. numbered t.steps t.lists (get_or t.slots (state * n + letter) 0)) b
      ∙ leads_head t (get_or t.slots (state * letters + letter) 0) (at_lines letters lines (state * letters + letter))
      (f.leads (state * letters + letter) (omega (arith, place, none)))
      ∙ ap head (at_place (kept_steps lines) state letters letter k);
  agrees = λ state letter h k.
      let place : state * letters + letter < t.conflict =
      omega (arith, many, none, mul-add-lt state letters letter states h k, mul_turned states letters) in
      subst (Agree shape) (at_place (kept_steps lines) state letters letter k) (f.agree_before (state * letters + letter) place);
}
  where
    mul_turned : (a b : ℕ) → a * b ≡ b * a
    mul_turned a b = omega arith

pub first_conflict : (shape : Shape) (lines : List KeptLine) (states letters : ℕ) (t : Stage) → IsFilled shape t (at_lines letters lines)
    → 0 < letters → length t.slots ≡ states * letters → t.conflict < length t.slots
    → IsFirstConflict shape lines states letters (t.conflict / letters) (t.conflict % letters)
first_conflict shape lines states letters t f some many there = record {
  state_below = div_below t.conflict letters states some (omega (arith, many, there));
  letter_below = mod_below t.conflict letters some;
  fails = f.not_there there;
  before_state = λ q l h k.
      let rows : (q + 1) * letters ≤ t.conflict / letters * letters =
      mul-le (q + 1) letters (t.conflict / letters) letters (omega (arith, h)) (omega arith) in
      let place : q * letters + l < t.conflict = omega (arith, k, rows, div-add-mod' t.conflict letters) in
      subst (Agree shape) (at_place (kept_steps lines) q letters l k) (f.agree_before (q * letters + l) place);
  before_letter = λ l h.
      let k : l < letters = omega (arith, h, mod_below t.conflict letters some) in
      let place : t.conflict / letters * letters + l < t.conflict = omega (arith, h, div-add-mod' t.conflict letters) in
      subst (Agree shape) (at_place (kept_steps lines) (t.conflict / letters) letters l k)
      (f.agree_before (t.conflict / letters * letters + l) place);
}

zeros_stay : (n b j : ℕ) → truth (get_or (replicate n 0) b 0) j ≡ false
zeros_stay zero b j = truth_none j
zeros_stay (suc n) zero j = truth_none j
zeros_stay (suc n) (suc b) j = zeros_stay n b j

pub nothing_covered : (n : ℕ) (words : List ℕ) → words ≡ replicate n 0 → (b j : ℕ) → truth (get_or words b 0) j ≡ false
nothing_covered n words e b j = ap (λ (l : List ℕ). truth (get_or l b 0) j) e ∙ zeros_stay n b j

pub all_filled : (shape : Shape) (letters n : ℕ) (all lines : List KeptLine) (t u : Stage) → t.slots ≡ replicate n 0 → t.conflict ≡ n
    → ((b j : ℕ) → truth (get_or t.covered.words.items b 0) j ≡ false) → lines ≡ all → Adds shape (at_lines letters lines) t u
    → IsFilled shape u (at_lines letters all) × (length u.slots ≡ n)
all_filled shape letters n all lines t u zeros c none is a =
    let many : length t.slots ≡ n = ap length zeros ∙ length-replicate n 0 in
    let made : IsFilled shape u (at_lines letters lines) =
    a.fills (λ i. []) (nothing_yet shape t (λ i h. ap (λ l. get_or l i 0) zeros ∙ get_or-replicate n i 0 0 (omega arith))
    (omega arith) none) in
    (subst (λ l. IsFilled shape u (at_lines letters l)) is made, a.as_many ∙ many)
