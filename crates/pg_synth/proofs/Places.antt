-- Identifiers tell places apart, and those of the game are the listed ones.
use Rattle.pg_synth.proofs.Common.{◌≡◌, ℕ, ◌+◌, ◌*◌, ◌-◌, ◌/◌, ◌%◌, ◌^◌, ◌<◌, inl, inr, true, false, eqb, leb, List, [], ◌∷◌, map, length}
use Rattle.pg_synth.proofs.Common.{Option, Some, None, arith, refl, sym, subst, ap, ◌∙◌, Contains, All, flat_map, range_with_len}
use Rattle.pg_synth.proofs.Common.{ne_eqb, le-leb, lt-leb, div-mul-add, mod-mul-add, pow_pos}
use Rattle.pg_synth.proofs.Common.{length-map-range_with_len, All-contains, Contains-append_left, Contains-append_right}
use Rattle.pg_synth.proofs.Common.{Contains-append_cases, contains_cases, contains_here, contains_later, contains_flat, contains_flattened}
use Rattle.pg_synth.proofs.Common.{Shape, Step, Automaton, IsAutomaton, letters, next, deciding, joined, inputs, outputs, input_letters}
use Rattle.pg_synth.proofs.Common.{output_letters, width, place_identifier, arrival_of, IsPlaceOf, Moves, place_within, place_with}
use Rattle.pg_synth.proofs.Common.{place_in, target, leads, added_by, all_identifiers, game_identifiers, Place, Dead, Arrival, Answer}
use Rattle.pg_synth.proofs.Common.{rising_contains, contains_rising, suc, first, last, MaxEven, MaxOdd, MinEven, MinOdd, Always, Never}
use Rattle.pg_synth.proofs.Letters.{joined_in}
use Rattle.pg_synth.proofs.Lists.{in_range, range_contains, contains_from_range, range_contained}

-- ---- an identifier names one place

-- the numbers of a place are below those of the next state
abbrev pub IsWithin : Automaton → Place → Type 0
IsWithin a Dead = Unit {0}
IsWithin a (Arrival q None) = Unit {0}
IsWithin a (Arrival q (Some s)) = s < a.sets
IsWithin a (Answer q i) = i < input_letters a

within : (sets width q r n : ℕ) → n ≡ 1 + q * width + r → r < width → place_with sets width n ≡ place_within sets q r
within sets width q r n e l =
    let nz : eqb n 0 ≡ false = ne_eqb n 0 (λ z. omega arith) in
    let m : n - 1 ≡ q * width + r = omega arith in
    let d : (n - 1) / width ≡ q = ap (λ k. k / width) m ∙ div-mul-add q width r l in
    let f : (n - 1) % width ≡ r = ap (λ k. k % width) m ∙ mod-mul-add q width r l in
    rw (nz, d, f) refl

pub known : (a : Automaton) (x : Place) → IsWithin a x → place_in a (place_identifier a x) ≡ x
known a Dead h = refl
known a (Arrival q None) h =
    within a.sets (width a) q 0 (place_identifier a (Arrival q None)) (omega arith) (omega arith)
known a (Arrival q (Some s)) h =
    let nz : eqb (1 + s) 0 ≡ false = ne_eqb (1 + s) 0 (λ z. omega arith) in
    let le : leb (1 + s) a.sets ≡ true = le-leb (1 + s) a.sets (omega arith) in
    let back : 1 + s - 1 ≡ s = omega arith in
    within a.sets (width a) q (1 + s) (place_identifier a (Arrival q (Some s))) (omega arith) (omega arith)
    ∙ rw (nz, le, back) refl
known a (Answer q i) h =
    let r : ℕ = a.sets + 1 + i in
    let nz : eqb r 0 ≡ false = ne_eqb r 0 (λ z. omega arith) in
    let lt : leb r a.sets ≡ false = lt-leb r a.sets (omega arith) in
    let back : r - 1 - a.sets ≡ i = omega arith in
    within a.sets (width a) q r (place_identifier a (Answer q i)) (omega arith) (omega arith)
    ∙ rw (nz, lt, back) refl

-- ---- places of the game

first_in : (xs : List ℕ) (s : ℕ) → first xs ≡ Some s → Contains xs s
first_in [] s e = absurd (cc e)
first_in (x ∷ xs) s e = (0, omega arith, (let same : x ≡ s = cc e in same))

last_in : (xs : List ℕ) (s : ℕ) → last xs ≡ Some s → Contains xs s
last_in [] s e = absurd (cc e)
last_in (x ∷ []) s e = (0, omega arith, (let same : x ≡ s = cc e in same))
last_in (x ∷ y ∷ ys) s e = let i = last_in (y ∷ ys) s e in (suc i.0, (let lt = i.1 in omega arith), i.2)

deciding_in : (shape : Shape) (xs : List ℕ) (s : ℕ) → deciding shape xs ≡ Some s → Contains xs s
deciding_in MinEven xs s e = first_in xs s e
deciding_in MinOdd xs s e = first_in xs s e
deciding_in MaxEven xs s e = last_in xs s e
deciding_in MaxOdd xs s e = last_in xs s e
deciding_in Always xs s e = last_in xs s e
deciding_in Never xs s e = last_in xs s e

pub deciding_below : (shape : Shape) (xs : List ℕ) (s bound : ℕ) → All (λ x. x < bound) xs → deciding shape xs ≡ Some s → s < bound
deciding_below shape xs s bound all e = All-contains (λ x. x < bound) xs s all (deciding_in shape xs s e)

pub within_game : (a : Automaton) (x : Place) → IsAutomaton a → IsPlaceOf a x → IsWithin a x
within_game a Dead is h = tt
within_game a (Arrival q None) is h = tt
within_game a (Arrival q (Some s)) is (inl e) = absurd (cc e)
within_game a (Arrival q (Some s)) is (inr (p, letter, lp, ll, e)) = go (next a p letter) refl e
  where
    go : (o : Option Step) → next a p letter ≡ o → Arrival q (Some s) ≡ arrival_of a.shape o → s < a.sets
    go None f d = absurd (cc d)
    go (Some step) f d =
        let g = is.steps p letter step lp ll f in
        let same : deciding a.shape step.sets ≡ Some s = cc d in
        deciding_below a.shape step.sets s a.sets g.sets_below same
within_game a (Answer q i) is h = h.1

pub arrival_below : (a : Automaton) (q : ℕ) (set : Option ℕ) → IsAutomaton a → IsPlaceOf a (Arrival q set) → q < a.states
arrival_below a q set is (inl e) =
    let same : q ≡ a.start = cc e in omega (arith, is.start_below)
arrival_below a q set is (inr (p, letter, lp, ll, e)) = go (next a p letter) refl e
  where
    go : (o : Option Step) → next a p letter ≡ o → Arrival q set ≡ arrival_of a.shape o → q < a.states
    go None f d = absurd (cc d)
    go (Some step) f d =
        let g = is.steps p letter step lp ll f in
        let same : q ≡ step.target = cc d in omega (arith, g.target_below)

pub reached : (a : Automaton) (q letter : ℕ) → q < a.states → letter < letters a → IsPlaceOf a (arrival_of a.shape (next a q letter))
reached a q letter lq ll = go (next a q letter) refl
  where
    go : (o : Option Step) → next a q letter ≡ o → IsPlaceOf a (arrival_of a.shape o)
    go None f = tt
    go (Some step) f = inr (q, letter, lq, ll, ap (arrival_of a.shape) (sym f))

pub letter_in : (a : Automaton) (i o : ℕ) → IsAutomaton a → joined a.controllable i o < letters a
letter_in a i o is = subst (λ n. joined a.controllable i o < 2 ^ n) is.marks (joined_in a.controllable i o)

-- moves stay in the game
pub moved : (a : Automaton) (x y : Place) → IsAutomaton a → IsPlaceOf a x → Moves a x y → IsPlaceOf a y
moved a Dead y is h e = subst (IsPlaceOf a) (sym e) tt
moved a (Arrival q set) y is h (i, l, e) = subst (IsPlaceOf a) (sym e) (arrival_below a q set is h, l)
moved a (Answer q i) y is h (o, l, e) =
    subst (IsPlaceOf a) (sym e) (reached a q (joined a.controllable i o) h.0 (letter_in a i o is))

-- ---- the listed identifiers are those of the places

pub listed : (a : Automaton) (x : Place) → IsPlaceOf a x → Contains (game_identifiers a) (place_identifier a x)
listed a x h = contains_rising (all_identifiers a) (place_identifier a x) (go x h)
  where
    start : ℕ
    start = place_identifier a (Arrival a.start None)

    later : (n : ℕ) → Contains (flat_map (added_by a) (range_with_len 0 a.states)) n → Contains (all_identifiers a) n
    later n c = contains_later 0 (start ∷ flat_map (added_by a) (range_with_len 0 a.states)) n
        (contains_later start (flat_map (added_by a) (range_with_len 0 a.states)) n c)

    added : (q n : ℕ) → q < a.states → Contains (added_by a q) n → Contains (all_identifiers a) n
    added q n l c = later n (contains_flattened (added_by a) (range_with_len 0 a.states) q n (range_contains a.states q l) c)

    go : (x : Place) → IsPlaceOf a x → Contains (all_identifiers a) (place_identifier a x)
    go Dead h = contains_here 0 (start ∷ flat_map (added_by a) (range_with_len 0 a.states))
    go (Arrival q set) (inl e) = subst (λ y. Contains (all_identifiers a) (place_identifier a y)) (sym e)
        (contains_later 0 (start ∷ flat_map (added_by a) (range_with_len 0 a.states)) start
        (contains_here start (flat_map (added_by a) (range_with_len 0 a.states))))
    go (Arrival q set) (inr (p, letter, lp, ll, e)) = subst (λ y. Contains (all_identifiers a) (place_identifier a y)) (sym e)
        (added p (target a p letter) lp
        (Contains-append_left (map (target a p) (range_with_len 0 (letters a)))
        (map (λ i. place_identifier a (Answer p i)) (range_with_len 0 (input_letters a))) (target a p letter)
        (range_contained (target a p) (letters a) letter ll)))
    go (Answer q i) h = added q (place_identifier a (Answer q i)) h.0
        (Contains-append_right (map (target a q) (range_with_len 0 (letters a)))
        (map (λ i. place_identifier a (Answer q i)) (range_with_len 0 (input_letters a))) (place_identifier a (Answer q i))
        (range_contained (λ i. place_identifier a (Answer q i)) (input_letters a) i h.1))

abbrev pub IsOf : Automaton → ℕ → Type 0
IsOf a n = (x : Place) × IsPlaceOf a x × (place_identifier a x ≡ n)

pub only_listed : (a : Automaton) (n : ℕ) → Contains (game_identifiers a) n → IsOf a n
only_listed a n c = elim (contains_cases 0 (start ∷ others) n (rising_contains (all_identifiers a) n c)) [
  | inl e ↦ (Dead, tt, sym e)
  | inr c' ↦ elim (contains_cases start others n c') [
    | inl e ↦ (Arrival a.start None, inl refl, sym e)
    | inr c'' ↦
        let p = contains_flat (added_by a) (range_with_len 0 a.states) n c'' in
        from_state p.0 (in_range a.states p.0 p.1) p.2
  ]
]
  where
    start : ℕ
    start = place_identifier a (Arrival a.start None)

    others : List ℕ
    others = flat_map (added_by a) (range_with_len 0 a.states)

    from_state : (q : ℕ) → q < a.states → Contains (added_by a q) n → IsOf a n
    from_state q l c = elim (Contains-append_cases (map (target a q) (range_with_len 0 (letters a)))
        (map (λ i. place_identifier a (Answer q i)) (range_with_len 0 (input_letters a))) n c) [
          | inl h ↦
              let p = contains_from_range (target a q) (letters a) n h in
              (arrival_of a.shape (next a q p.0), reached a q p.0 l p.1, p.2)
          | inr h ↦
              let p = contains_from_range (λ i. place_identifier a (Answer q i)) (input_letters a) n h in
              (Answer q p.0, (l, p.1), p.2)
        ]

-- ---- where places lead

pub led : (a : Automaton) (x : Place) (n : ℕ) → Contains (leads a x) n → (y : Place) × Moves a x y × (place_identifier a y ≡ n)
led a Dead n c = elim (contains_cases 0 [] n c) [
  | inl e ↦ (Dead, refl, sym e)
  | inr h ↦ (let l : h.0 < 0 = h.1 in absurd (omega arith))
]
led a (Arrival q set) n c =
    let p = contains_from_range (λ i. place_identifier a (Answer q i)) (input_letters a) n c in
    (Answer q p.0, (p.0, p.1, refl), p.2)
led a (Answer q i) n c =
    let p = contains_from_range (λ o. target a q (joined a.controllable i o)) (output_letters a) n c in
    (arrival_of a.shape (next a q (joined a.controllable i p.0)), (p.0, p.1, refl), p.2)

pub leading : (a : Automaton) (x y : Place) → Moves a x y → Contains (leads a x) (place_identifier a y)
leading a Dead y e = subst (λ z. Contains (0 ∷ []) (place_identifier a z)) (sym e) (contains_here 0 [])
leading a (Arrival q set) y (i, l, e) = subst (λ z. Contains (leads a (Arrival q set)) (place_identifier a z)) (sym e)
    (range_contained (λ i. place_identifier a (Answer q i)) (input_letters a) i l)
leading a (Answer q i) y (o, l, e) = subst (λ z. Contains (leads a (Answer q i)) (place_identifier a z)) (sym e)
    (range_contained (λ o. target a q (joined a.controllable i o)) (output_letters a) o l)

pub has_leads : (a : Automaton) (x : Place) → 0 < length (leads a x)
has_leads a Dead = omega arith
has_leads a (Arrival q set) =
    omega (arith, length-map-range_with_len (λ i. place_identifier a (Answer q i)) 0 (input_letters a), pow_pos (inputs a.controllable))
has_leads a (Answer q i) =
    omega (arith, length-map-range_with_len (λ o. target a q (joined a.controllable i o)) 0 (output_letters a), pow_pos (outputs a.controllable))

-- a listed identifier is that of a place
pub place_listed : (a : Automaton) (n : ℕ) → IsAutomaton a → Contains (game_identifiers a) n → IsPlaceOf a (place_in a n)
place_listed a n is c =
    let x = only_listed a n c in
    subst (IsPlaceOf a) (sym (ap (place_in a) (sym x.2) ∙ known a x.0 (within_game a x.0 is x.1))) x.1
