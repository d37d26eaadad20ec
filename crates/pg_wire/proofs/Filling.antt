-- Lists and the pairs of their components that aren't 0: each is told by the other.
use Rattle.pg_wire.proofs.Common.{◌≡◌, ◌≢◌, ℕ, zero, suc, ◌+◌, ◌<◌, ◌≤◌, cond, List, [], ◌∷◌, ◌++◌, length, map, get_or, set, refl, sym, ap}
use Rattle.pg_wire.proofs.Common.{subst, ◌∙◌, arith, inl, inr, All, nat_eq, ◌==◌, range_with_len, cases_Bool, cases_eq, eq-eqb, ne_eqb}
use Rattle.pg_wire.proofs.Common.{eqb-true, eqb-false, get_or-set_same, get_or-set_other, length-map-range_with_len, All-map, IsWord}
use Rattle.pg_wire.proofs.Common.{IsComponents, IsPlace, ArePlaces, nonzero_from, nonzero, component_in, filled, places}
use Rattle.pg_wire.specs.Mirrors.Ordered.{rising}
use Rattle.pg_wire.proofs.Orders.{Follow, ordered, follow}

abbrev pub Pair : Type 0
Pair = ℕ × ℕ

-- a number more, at a place that has none
number_more : (ps : List Pair) (p : Pair) (k : ℕ) → ((i : ℕ) (d : Pair) → i < length ps → (get_or ps i d).0 ≢ p.0)
    → component_in (ps ++ p ∷ []) k ≡ cond (nat_eq p.0 k) p.1 (component_in ps k)
number_more [] p k apart = refl
number_more (q ∷ ps) p k apart =
    elim (cases_eq q.0 k) [
      | inl e ↦
          let ne : p.0 ≢ k = λ s. apart zero q (omega arith) (e ∙ sym s) in
          rw (eq-eqb q.0 k e, ne_eqb p.0 k ne) refl
      | inr ne ↦
          rw (ne_eqb q.0 k ne) (number_more ps p k (λ i d lt. apart (suc i) d (omega arith)))
    ]

-- the row after one number more
pub filled_more : (row : List ℕ) (ps : List Pair) (p : Pair) → p.0 < length row
    → ((i : ℕ) (d : Pair) → i < length ps → (get_or ps i d).0 ≢ p.0) → ((k : ℕ) → k < length row → get_or row k 0 ≡ component_in ps k)
    → (k : ℕ) → k < length row → get_or (set row p.0 p.1) k 0 ≡ component_in (ps ++ p ∷ []) k
filled_more row ps p below apart h k lt =
    elim (cases_eq p.0 k) [
      | inl e ↦ subst (λ (n : ℕ). get_or (set row p.0 p.1) n 0 ≡ p.1) e (get_or-set_same row p.0 p.1 0 below)
          ∙ sym (number_more ps p k apart ∙ ap (λ b. cond b p.1 (component_in ps k)) (eq-eqb p.0 k e))
      | inr ne ↦ get_or-set_other row p.0 k p.1 0 (λ s. ne (sym s))
          ∙ (h k lt ∙ sym (number_more ps p k apart ∙ ap (λ b. cond b p.1 (component_in ps k)) (ne_eqb p.0 k ne)))
    ]

-- places from `at` on that rise
abbrev Rise : ℕ → ℕ → List Pair → Type 0
Rise width at ps = Follow (places width) at ps

rise_of : (width : ℕ) (ps : List Pair) → ArePlaces width ps → Rise width 0 ps
rise_of width ps h = follow (places width) (rising (λ (p : Pair). p.0)) 0 ps (record { stand = λ i d lt. omega arith; items = h.places; order = h.rising })

none_before : (width at k : ℕ) (ps : List Pair) → Rise width at ps → k < at → component_in ps k ≡ 0
none_before width at k [] h lt = refl
none_before width at k (p ∷ ps) h lt =
    let ne : p.0 ≢ k = λ e. absurd (omega (arith, h.0.0, e)) in
    rw (ne_eqb p.0 k ne) (none_before width (p.0 + 1) k ps h.1 (omega (arith, h.0.0)))

-- a pair that stands before a range tells nothing of it
without : (p : Pair) (ps : List Pair) (at n : ℕ) → p.0 < at → map (component_in (p ∷ ps)) (range_with_len at n) ≡ map (component_in ps) (range_with_len at n)
without p ps at zero lt = refl
without p ps at (suc n) lt =
    let ne : p.0 ≢ at = λ e. absurd (omega arith) in
    rw (ne_eqb p.0 at ne) (ap (λ (ns : List ℕ). component_in ps at ∷ ns) (without p ps (at + 1) n (omega arith)))

nonzero_filled_from : (width n at : ℕ) (ps : List Pair) → width ≡ at + n → Rise width at ps → nonzero_from at (map (component_in ps) (range_with_len at n)) ≡ ps
nonzero_filled_from width zero at [] e h = refl
nonzero_filled_from width zero at (p ∷ ps) e h = absurd (omega (arith, h.0.0, h.0.1.place))
nonzero_filled_from width (suc n) at [] e h = nonzero_filled_from width n (at + 1) [] (omega arith) tt
nonzero_filled_from width (suc n) at (p ∷ ps) e h =
    elim (cases_eq p.0 at) [
      | inl same ↦
          let some : p.1 ≢ 0 = λ z. absurd (omega (arith, h.0.1.some, z)) in
          let next : Rise width (at + 1) ps = subst (λ (k : ℕ). Rise width (k + 1) ps) same h.1 in
          let rest : nonzero_from (at + 1) (map (component_in (p ∷ ps)) (range_with_len (at + 1) n)) ≡ ps =
          ap (nonzero_from (at + 1)) (without p ps (at + 1) n (omega arith))
          ∙ nonzero_filled_from width n (at + 1) ps (omega arith) next in
          rw (eq-eqb p.0 at same, ne_eqb p.1 0 some) (ap (λ (qs : List Pair). (at, p.1) ∷ qs) rest ∙ ap (λ (k : ℕ). (k, p.1) ∷ ps) (sym same))
      | inr other ↦
          let past : at + 1 ≤ p.0 = omega (arith, h.0.0, other) in
          let none : component_in ps at ≡ 0 = none_before width (p.0 + 1) at ps h.1 (omega arith) in
          rw (ne_eqb p.0 at other, none) (nonzero_filled_from width n (at + 1) (p ∷ ps) (omega arith) ((past, h.0.1), h.1))
    ]

-- the pairs of a list that pairs tell
pub nonzero_filled : (width : ℕ) (ps : List Pair) → ArePlaces width ps → nonzero (filled width ps) ≡ ps
nonzero_filled width ps h = nonzero_filled_from width width 0 ps (omega arith) (rise_of width ps h)

none_from : (at k : ℕ) (ns : List ℕ) → k < at → component_in (nonzero_from at ns) k ≡ 0
none_from at k [] lt = refl
none_from at k (n ∷ ns) lt =
    let rest = none_from (at + 1) k ns (omega arith) in
    let ne : at ≢ k = λ e. absurd (omega arith) in
    elim (cases_Bool (n == 0)) [
      | inl t ↦ rw t rest
      | inr t ↦ rw (t, ne_eqb at k ne) rest
    ]

filled_nonzero_from : (at : ℕ) (ns : List ℕ) → map (component_in (nonzero_from at ns)) (range_with_len at (length ns)) ≡ ns
filled_nonzero_from at [] = refl
filled_nonzero_from at (n ∷ ns) =
    let rest = filled_nonzero_from (at + 1) ns in
    let more = nonzero_from (at + 1) ns in
    let listed : List Pair → List ℕ = λ ps. map (component_in ps) (range_with_len at (suc (length ns))) in
    elim (cases_Bool (n == 0)) [
      | inl t ↦
          let same : nonzero_from at (n ∷ ns) ≡ more = rw t refl in
          ap listed same ∙ ap (λ (k : ℕ). k ∷ map (component_in more) (range_with_len (at + 1) (length ns)))
          (none_from (at + 1) at ns (omega arith)) ∙ ap (λ (ms : List ℕ). 0 ∷ ms) rest ∙ ap (λ (k : ℕ). k ∷ ns) (sym (eqb-true n 0 t))
      | inr t ↦
          let same : nonzero_from at (n ∷ ns) ≡ (at, n) ∷ more = rw t refl in
          let here : component_in ((at, n) ∷ more) at ≡ n = rw (eq-eqb at at refl) refl in
          ap listed same ∙ ap (λ (k : ℕ). k ∷ map (component_in ((at, n) ∷ more)) (range_with_len (at + 1) (length ns))) here
          ∙ ap (λ (ms : List ℕ). n ∷ ms) (without (at, n) more (at + 1) (length ns) (omega arith) ∙ rest)
    ]

-- the list that the pairs of a list tell
pub filled_nonzero : (width : ℕ) (ns : List ℕ) → length ns ≡ width → filled width (nonzero ns) ≡ ns
filled_nonzero width ns e = ap (λ (k : ℕ). filled k (nonzero ns)) (sym e) ∙ filled_nonzero_from 0 ns

lower : (width at : ℕ) (ps : List Pair) → Rise width (at + 1) ps → Rise width at ps
lower width at [] h = tt
lower width at (p ∷ ps) h = ((omega (arith, h.0.0), h.0.1), h.1)

rise_from : (width at : ℕ) (ns : List ℕ) → All IsWord ns → width ≡ at + length ns → Rise width at (nonzero_from at ns)
rise_from width at [] h e = tt
rise_from width at (n ∷ ns) h e =
    let rest = rise_from width (at + 1) ns (λ i d lt. h (suc i) d (omega arith)) (omega arith) in
    elim (cases_Bool (n == 0)) [
      | inl t ↦ rw t (lower width at (nonzero_from (at + 1) ns) rest)
      | inr t ↦
          let ne : n ≢ 0 = eqb-false n 0 t in
          rw t ((omega arith, record { place = omega arith; some = omega (arith, ne); number = h 0 n (omega arith) }), rest)
    ]

few_from : (at : ℕ) (ns : List ℕ) → length (nonzero_from at ns) ≤ length ns
few_from at [] = omega arith
few_from at (n ∷ ns) =
    let rest = few_from (at + 1) ns in
    elim (cases_Bool (n == 0)) [
      | inl t ↦ rw t (omega (arith, rest))
      | inr t ↦ rw t (omega (arith, rest))
    ]

pub places_nonzero : (width : ℕ) (ns : List ℕ) → IsComponents width ns → ArePlaces width (nonzero ns)
places_nonzero width ns h =
    let o = ordered (places width) (rising (λ (p : Pair). p.0)) 0 (nonzero ns) (rise_from width 0 ns h.numbers (omega (arith, h.size))) in
    record { size = omega (arith, h.size, few_from 0 ns); places = o.items; rising = o.order }

word_in : (width : ℕ) (ps : List Pair) → All (IsPlace width) ps → (k : ℕ) → IsWord (component_in ps k)
word_in width [] h k = omega arith
word_in width (p ∷ ps) h k =
    elim (cases_Bool (p.0 == k)) [
      | inl t ↦ rw t (h 0 p (omega arith)).number
      | inr t ↦ rw t (word_in width ps (λ i d lt. h (suc i) d (omega arith)) k)
    ]

pub components_filled : (width : ℕ) (ps : List Pair) → ArePlaces width ps → IsComponents width (filled width ps)
components_filled width ps h = record {
  size = length-map-range_with_len (component_in ps) 0 width;
  numbers = All-map IsWord (component_in ps) (range_with_len 0 width) (λ i d lt. word_in width ps h.places _);
}
