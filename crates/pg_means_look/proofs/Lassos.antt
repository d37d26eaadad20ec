-- The places of a lasso, and the run of an automaton on it.
use Rattle.std.proofs.Common.{◌≡◌, ◌↔◌, ℕ, zero, suc, ◌+◌, ◌-◌, ◌*◌, ◌/◌, ◌%◌, ◌<◌, ◌≤◌, ◌⊎◌, inl, inr, Bool, true, false, cond, ltb, List, length, get_or, arith, refl, sym, ap, subst, ◌∙◌}
use Rattle.std.specs.Prelude.{All}
use Rattle.std.proofs.lemmas.Bool.{cases_lt, cases_eq}
use Rattle.std.proofs.lemmas.Bool.Decides.{eqb_tells, nat_tests}
use Rattle.std.proofs.lemmas.Nat.{div-add-mod', mod-mul-add, mod_below}
use Rattle.std.proofs.Math.Nat.{suc-mul}
use Rattle.pg_means_look.specs.Automata.{Automaton, state_at, met, IsGreatestRecurring, IsAccepted}
use Rattle.pg_means_look.specs.Lassos.{lasso}
use Rattle.pg_means_look.specs.Mirrors.Places.{behind, place_at, IsRunOn, priority_on, IsGreatestOn}

-- ---- places

behind_last : (count back place : ℕ) → place + 1 ≡ count → behind count back place ≡ back
behind_last count back place e = elim (eqb_tells (place + 1) count) [
  | inl h ↦ ap (λ (b : Bool). cond b back (place + 1)) h.0
  | inr h ↦ absurd (h.1 e)
]

behind_next : (count back place : ℕ) → ¬ (place + 1 ≡ count) → behind count back place ≡ place + 1
behind_next count back place ne = elim (eqb_tells (place + 1) count) [
  | inl h ↦ absurd (ne h.1)
  | inr h ↦ ap (λ (b : Bool). cond b back (place + 1)) h.0
]

pub behind_below : (count back place : ℕ) → back < count → place < count → behind count back place < count
behind_below count back place lt below = elim (cases_eq (place + 1) count) [
  | inl e ↦ let h : behind count back place ≡ back = behind_last count back place e in omega arith
  | inr ne ↦ let h : behind count back place ≡ place + 1 = behind_next count back place ne in omega (arith, ne)
]

pub place_below : (count back : ℕ) → back < count → (t : ℕ) → place_at count back t < count
place_below count back lt zero = omega arith
place_below count back lt (suc t) = behind_below count back (place_at count back t) lt (place_below count back lt t)

-- ---- the place as a remainder

mod_next : (x m : ℕ) → 0 < m → ((x % m + 1 ≡ m) × ((x + 1) % m ≡ 0)) ⊎ ((x % m + 1 < m) × ((x + 1) % m ≡ x % m + 1))
mod_next x m some = elim (cases_lt (x % m + 1) m) [
  | inl lt ↦
      let whole : x / m * m + x % m ≡ x = div-add-mod' x m in
      let e : x + 1 ≡ x / m * m + (x % m + 1) = omega arith in
      inr (lt, ap (λ n. n % m) e ∙ mod-mul-add (x / m) m (x % m + 1) lt)
  | inr ge ↦
      let below : x % m < m = mod_below x m some in
      let last : x % m + 1 ≡ m = omega arith in
      let whole : x / m * m + x % m ≡ x = div-add-mod' x m in
      let more : (x / m + 1) * m ≡ x / m * m + m = one_more (x / m) m in
      let e : x + 1 ≡ (x / m + 1) * m + 0 = omega arith in
      inl (last, ap (λ n. n % m) e ∙ mod-mul-add (x / m + 1) m 0 some)
]
  where
    one_more : (a m : ℕ) → (a + 1) * m ≡ a * m + m
    one_more a m = let e : a + 1 ≡ suc a = omega arith in ap (λ n. n * m) e ∙ suc-mul a m

grows : (t m : ℕ) → 0 < m → t ≤ t * m
grows zero m some = omega arith
grows (suc t) m some =
    let more : suc t * m ≡ t * m + m = suc-mul t m in
    let less : t ≤ t * m = grows t m some in omega arith

none_or_more : (t m : ℕ) → (t * m ≡ 0) ⊎ (m ≤ t * m)
none_or_more zero m = inl (omega arith)
none_or_more (suc t) m = inr (let more : suc t * m ≡ t * m + m = suc-mul t m in omega arith)

abbrev Index : ℕ → ℕ → ℕ → ℕ → Type 0
Index count back t p = ((t < count) × (p ≡ t)) ⊎ ((count ≤ t) × (p ≡ back + (t - back) % (count - back)))

module _ (count back : ℕ) (lt : back < count) where
  index_next : (t p : ℕ) → Index count back t p → Index count back (suc t) (behind count back p)
  index_next t p (inl h) = elim (cases_eq (t + 1) count) [
    | inl e ↦
        let at : p + 1 ≡ count = let is : p ≡ t = h.1 in omega arith in
        let b : behind count back p ≡ back = behind_last count back p at in
        let m : suc t - back ≡ 1 * (count - back) + 0 = omega arith in
        let z : (suc t - back) % (count - back) ≡ 0 =
        ap (λ n. n % (count - back)) m ∙ mod-mul-add 1 (count - back) 0 (omega arith) in
        inr (omega arith, omega arith)
    | inr ne ↦
        let is : p ≡ t = h.1 in
        let below : t < count = h.0 in
        let b : behind count back p ≡ p + 1 = behind_next count back p (λ e. ne (omega arith)) in
        inl (omega (arith, ne), omega arith)
  ]
  index_next t p (inr h) = elim (mod_next (t - back) (count - back) (omega arith)) [
    | inl k ↦
        let from : count ≤ t = h.0 in
        let is : p ≡ back + (t - back) % (count - back) = h.1 in
        let last : (t - back) % (count - back) + 1 ≡ count - back = k.0 in
        let z : (t - back + 1) % (count - back) ≡ 0 = k.1 in
        let e : suc t - back ≡ t - back + 1 = omega arith in
        let b : behind count back p ≡ back = behind_last count back p (omega arith) in
        let z' : (suc t - back) % (count - back) ≡ 0 = ap (λ n. n % (count - back)) e ∙ z in
        inr (omega arith, omega arith)
    | inr k ↦
        let from : count ≤ t = h.0 in
        let is : p ≡ back + (t - back) % (count - back) = h.1 in
        let less : (t - back) % (count - back) + 1 < count - back = k.0 in
        let z : (t - back + 1) % (count - back) ≡ (t - back) % (count - back) + 1 = k.1 in
        let e : suc t - back ≡ t - back + 1 = omega arith in
        let b : behind count back p ≡ p + 1 = behind_next count back p (λ same. omega arith) in
        let z' : (suc t - back) % (count - back) ≡ (t - back) % (count - back) + 1 = ap (λ n. n % (count - back)) e ∙ z in
        inr (omega arith, omega arith)
  ]

  pub index_of : (t : ℕ) → Index count back t (place_at count back t)
  index_of zero = inl (omega arith, refl)
  index_of (suc t) = index_next t (place_at count back t) (index_of t)

  pub place_from : (t : ℕ) → back ≤ t → back ≤ place_at count back t
  place_from t from = elim (index_of t) [
    | inl h ↦ let is : place_at count back t ≡ t = h.1 in omega arith
    | inr h ↦ let is : place_at count back t ≡ back + (t - back) % (count - back) = h.1 in omega arith
  ]

  again_at : (t k s : ℕ) → back ≤ k → k < count → s ≡ k + t * (count - back) → place_at count back s ≡ k
  again_at t k s from below is = elim (index_of s) [
    | inl h ↦
        let early : s < count = h.0 in
        let same : place_at count back s ≡ s = h.1 in
        elim (none_or_more t (count - back)) [
          | inl none ↦ let z : t * (count - back) ≡ 0 = none in omega arith
          | inr more ↦ let m : count - back ≤ t * (count - back) = more in omega arith
        ]
    | inr h ↦
        let late : count ≤ s = h.0 in
        let same : place_at count back s ≡ back + (s - back) % (count - back) = h.1 in
        let e : s - back ≡ t * (count - back) + (k - back) = omega arith in
        let m : (s - back) % (count - back) ≡ k - back =
        ap (λ n. n % (count - back)) e ∙ mod-mul-add t (count - back) (k - back) (omega arith) in
        omega arith
  ]

  -- each place from `back` on comes again
  pub comes_again : (t k : ℕ) → back ≤ k → k < count → (s : ℕ) × (t ≤ s) × (place_at count back s ≡ k)
  comes_again t k from below =
      let g : t ≤ t * (count - back) = grows t (count - back) (omega arith) in
      (k + t * (count - back), omega arith, again_at t k (k + t * (count - back)) from below refl)

-- the letter at each step is that of its place
pub letter_at : (letters : List ℕ) (back : ℕ) → back < length letters → (t : ℕ)
    → lasso letters back t ≡ get_or letters (place_at (length letters) back t) 0
letter_at letters back lt t = elim (index_of (length letters) back lt t) [
  | inl h ↦
      let early : t < length letters = h.0 in
      let b : ltb t (length letters) ≡ true = grind (arith, nat_tests) in
      ap (λ (b : Bool). cond b (get_or letters t 0) (get_or letters (back + (t - back) % (length letters - back)) 0)) b
      ∙ ap (λ n. get_or letters n 0) (sym h.1)
  | inr h ↦
      let late : length letters ≤ t = h.0 in
      let b : ltb t (length letters) ≡ false = grind (arith, nat_tests) in
      ap (λ (b : Bool). cond b (get_or letters t 0) (get_or letters (back + (t - back) % (length letters - back)) 0)) b
      ∙ ap (λ n. get_or letters n 0) (sym h.1)
]

-- ---- the run

greatest_unique : (priorities : ℕ → ℕ) (p q : ℕ) → IsGreatestRecurring priorities p → IsGreatestRecurring priorities q → p ≤ q
greatest_unique priorities p q g h = elim (cases_lt q p) [
  | inl lt ↦ absurd (g.recurs (h.bounds.0, λ s le e. let b : priorities s ≤ q = h.bounds.1 s le in omega arith))
  | inr le ↦ le
]

module _ (a : Automaton) (letters states : List ℕ) (back : ℕ) (lt : back < length letters) (run : IsRunOn a letters states)
    (round : get_or states (length letters) 0 ≡ get_or states back 0) where
  abbrev Place : ℕ → ℕ
  Place t = place_at (length letters) back t

  state_of : (t : ℕ) → state_at a (lasso letters back) t ≡ get_or states (Place t) 0
  state_of zero = sym run.start
  state_of (suc t) =
      let below : Place t < length letters = place_below (length letters) back lt t in
      let step : get_or states (Place t + 1) 0 ≡ a.target (get_or states (Place t) 0) (get_or letters (Place t) 0) = run.steps (Place t) below in
      let goes : a.target (state_at a (lasso letters back) t) (lasso letters back t)
      ≡ a.target (get_or states (Place t) 0) (get_or letters (Place t) 0) =
      ap (λ q. a.target q (lasso letters back t)) (state_of t) ∙ ap (a.target (get_or states (Place t) 0)) (letter_at letters back lt t) in
      goes ∙ sym step ∙ sym (elim (cases_eq (Place t + 1) (length letters)) [
        | inl e ↦ ap (λ n. get_or states n 0) (behind_last (length letters) back (Place t) e) ∙ sym round ∙ ap (λ n. get_or states n 0) (sym e)
        | inr ne ↦ ap (λ n. get_or states n 0) (behind_next (length letters) back (Place t) ne)
      ])

  met_of : (t : ℕ) → met a (lasso letters back) t ≡ priority_on a letters states (Place t)
  met_of t = ap (λ q. a.priority q (lasso letters back t)) (state_of t) ∙ ap (a.priority (get_or states (Place t) 0)) (letter_at letters back lt t)

  pub greatest_of : (p : ℕ) → IsGreatestOn a letters states back p → IsGreatestRecurring (met a (lasso letters back)) p
  greatest_of p g = record {
    recurs = λ (t, absent).
        let again = comes_again (length letters) back lt t g.at g.from g.below in
        absent again.0 again.1 (met_of again.0 ∙ ap (priority_on a letters states) again.2 ∙ g.is);
    bounds = (
      back,
      λ s le.
          let low : priority_on a letters states (Place s) ≤ p =
          g.bounds (Place s) (place_from (length letters) back lt s le) (place_below (length letters) back lt s) in
          subst (λ n. n ≤ p) (sym (met_of s)) low,
    );
  }

  -- by the parity of the greatest priority that comes again
  pub accepts_even : (p : ℕ) → IsGreatestOn a letters states back p → (p % 2 ≡ 0) ↔ IsAccepted a (lasso letters back)
  accepts_even p g =
      let is = greatest_of p g in (
        λ even other.
            let le : p ≤ other.0 = greatest_unique (met a (lasso letters back)) p other.0 is other.1 in
            let ge : other.0 ≤ p = greatest_unique (met a (lasso letters back)) other.0 p other.1 is in
            let odd : other.0 % 2 ≡ 1 = other.2 in
            let same : other.0 ≡ p = omega arith in
            let odd' : p % 2 ≡ 1 = ap (λ n. n % 2) (sym same) ∙ odd in
            omega arith,
        λ accepted. elim (cases_eq (p % 2) 0) [
          | inl e ↦ e
          | inr ne ↦ absurd (accepted (p, is, omega (arith, ne)))
        ],
      )

pub lasso_within : (letters : List ℕ) (back bound : ℕ) → back < length letters → All (λ l. l < bound) letters → (t : ℕ)
    → lasso letters back t < bound
lasso_within letters back bound lt all t =
    subst (λ n. n < bound) (sym (letter_at letters back lt t))
    (all (place_at (length letters) back t) 0 (place_below (length letters) back lt t))
