-- Each automaton has a game: that of its lines, each identifier in them replaced by its place.
use Rattle.pg_synth.proofs.Common.{◌≡◌, ℕ, suc, ◌+◌, ◌<◌, ◌≤◌, true, false, cond, eqb, List, [], ◌∷◌, length, map, get_or, arith, refl, sym}
use Rattle.pg_synth.proofs.Common.{subst, ap, inl, inr, ◌∙◌, Contains, sum_by, IsStrictlyIncreasing, IsPermutation, cases_lt, eqb-true}
use Rattle.pg_synth.proofs.Common.{eq-eqb, length-map, get_or-map, All-nil, All-cons, Contains-get_or, IsPermutation-refl, sum_by-cons}
use Rattle.pg_synth.proofs.Common.{sorted_from_strictly_increasing, non_decreasing_from_sorted, GameVertex, identifier, identifiers}
use Rattle.pg_synth.proofs.Common.{edge_count, Line, line_of, rising, rising_rises, rising_length, rising_contains}
use Rattle.pg_synth.proofs.Common.{contains_cases, contains_here, contains_later, game_from_sound, identifier_is, Automaton, IsAutomaton}
use Rattle.pg_synth.proofs.Common.{place_in, leads, edges_of, line_at, all_identifiers, game_identifiers, game_lines, Place, Dead}
use Rattle.std.proofs.Common.{All}
use Rattle.std.specs.Prelude.{slice_index}
use Rattle.pg_arena.specs.Lines as lines
use Rattle.pg_arena.proofs.Finishing.{IsSound}
use Rattle.pg_synth.proofs.Places.{known, within_game, moved, listed, only_listed, led, has_leads}

-- ---- the place of a number in a list

abbrev place_among : List ℕ → ℕ → ℕ
place_among [] q = 0
place_among (n ∷ ns) q = cond (eqb n q) 0 (suc (place_among ns q))

record IsFoundAt (ns : List ℕ) (q k : ℕ) : Type 0 where
  below : k < length ns
  at : get_or ns k 0 ≡ q

place_found : (ns : List ℕ) (q : ℕ) → Contains ns q → IsFoundAt ns q (place_among ns q)
place_found [] q (k, lt, e) = absurd (omega arith)
place_found (n ∷ ns) q c = elim (eqb n q) as (λ b. eqb n q ≡ b → IsFoundAt (n ∷ ns) q (cond b 0 (suc (place_among ns q)))) [
  | true ↦ λ e. record { below = omega arith; at = eqb-true n q e }
  | false ↦ λ e. elim (contains_cases n ns q c) [
    | inl same ↦ absurd (let w : eqb n q ≡ true = subst (λ m. eqb n m ≡ true) (sym same) (eq-eqb n n refl) in let x : true ≡ false = sym w ∙ e in cc x)
    | inr later ↦ (let f = place_found ns q later in record { below = omega (arith, f.below); at = f.at })
  ]
] refl

back : (ids xs : List ℕ) → ((q : ℕ) → Contains xs q → Contains ids q) → map (slice_index ids) (map (place_among ids) xs) ≡ xs
back ids [] h = refl
back ids (x ∷ xs) h =
    let one : get_or ids (place_among ids x) 0 ≡ x = (place_found ids x (h x (contains_here x xs))).at in
    let others = back ids xs (λ q c. h q (contains_later x xs q c)) in
    rw (one, others) refl

places_below : (ids xs : List ℕ) → ((q : ℕ) → Contains xs q → Contains ids q) → All (λ w. w < length ids) (map (place_among ids) xs)
places_below ids [] h = All-nil (λ w. w < length ids)
places_below ids (x ∷ xs) h =
    All-cons (λ w. w < length ids) (place_among ids x) (map (place_among ids) xs) ((place_found ids x (h x (contains_here x xs))).below)
    (places_below ids xs (λ q c. h q (contains_later x xs q c)))

-- places rise where the numbers do
places_rise : (ids xs : List ℕ) → IsStrictlyIncreasing ids → IsStrictlyIncreasing xs → ((q : ℕ) → Contains xs q → Contains ids q)
    → IsStrictlyIncreasing (map (place_among ids) xs)
places_rise ids xs up rise h = λ k lt.
    let long = length-map xs (place_among ids) in
    let here = place_found ids (get_or xs k 0) (h (get_or xs k 0) (Contains-get_or xs k 0 (omega arith))) in
    let next = place_found ids (get_or xs (k + 1) 0) (h (get_or xs (k + 1) 0) (Contains-get_or xs (k + 1) 0 (omega arith))) in
    let a = get_or-map (place_among ids) xs k 0 0 (omega arith) in
    let b = get_or-map (place_among ids) xs (k + 1) 0 0 (omega arith) in
    let order : get_or xs k 0 < get_or xs (k + 1) 0 = rise k (omega arith) in
    let p : ℕ = place_among ids (get_or xs k 0) in
    let q : ℕ = place_among ids (get_or xs (k + 1) 0) in
    elim (cases_lt p q) [
      | inl low ↦ omega (arith, a, b, low)
      | inr high ↦ (
          let wrong : get_or ids q 0 ≤ get_or ids p 0 =
          non_decreasing_from_sorted ids (sorted_from_strictly_increasing ids up) q p 0 high here.below in
          let d : get_or ids p 0 ≡ get_or xs k 0 = here.at in
          let e : get_or ids q 0 ≡ get_or xs (k + 1) 0 = next.at in absurd (omega arith))
    ]

-- ---- the game

abbrev linked : Automaton → ℕ → GameVertex
linked a n = record (line_at a n) { successors = map (place_among (game_identifiers a)) (rising (leads a (place_in a n))) }

abbrev pub linked_game : Automaton → List GameVertex
linked_game a = map (linked a) (game_identifiers a)

identifiers_of : (a : Automaton) (ns : List ℕ) → identifiers (map (linked a) ns) ≡ ns
identifiers_of a [] = refl
identifiers_of a (n ∷ ns) = ap (λ (ms : List ℕ). n ∷ ms) (identifiers_of a ns)

-- successors are vertices
leads_listed : (a : Automaton) (n q : ℕ) → IsAutomaton a → Contains (game_identifiers a) n
    → Contains (rising (leads a (place_in a n))) q → Contains (game_identifiers a) q
leads_listed a n q is c d =
    let x = only_listed a n c in
    let e : place_in a n ≡ x.0 = ap (place_in a) (sym x.2) ∙ known a x.0 (within_game a x.0 is x.1) in
    let p = led a x.0 q (subst (λ (y : Place). Contains (leads a y) q) e (rising_contains (leads a (place_in a n)) q d)) in
    subst (Contains (game_identifiers a)) p.2 (listed a p.0 (moved a x.0 p.0 is x.1 p.1))

sound : (a : Automaton) (n : ℕ) → IsAutomaton a → Contains (game_identifiers a) n
    → IsSound (length (game_identifiers a)) (linked a n)
sound a n is c =
    let xs : List ℕ = rising (leads a (place_in a n)) in
    let ids : List ℕ = game_identifiers a in
    record {
      goes_on = (
          let some : 0 < length xs = rising_length (leads a (place_in a n)) (has_leads a (place_in a n)) in
          let long = length-map xs (place_among ids) in omega arith);
      rise = places_rise ids xs (rising_rises (all_identifiers a)) (rising_rises (leads a (place_in a n))) (λ q d. leads_listed a n q is c d);
      within = places_below ids xs (λ q d. leads_listed a n q is c d);
    }

all_sound : (a : Automaton) (ns : List ℕ) → IsAutomaton a → ((n : ℕ) → Contains ns n → Contains (game_identifiers a) n)
    → All (IsSound (length (game_identifiers a))) (map (linked a) ns)
all_sound a [] is h = All-nil (IsSound (length (game_identifiers a)))
all_sound a (n ∷ ns) is h =
    All-cons (IsSound (length (game_identifiers a))) (linked a n) (map (linked a) ns) (sound a n is (h n (contains_here n ns)))
    (all_sound a ns is (λ q c. h q (contains_later n ns q c)))

map_same : {X : Type 0} (f g : ℕ → X) (xs : List ℕ) → ((x : ℕ) → f x ≡ g x) → map f xs ≡ map g xs
map_same f g [] h = refl
map_same f g (x ∷ xs) h = rw (h x, map_same f g xs h) refl

line_back : (a : Automaton) (n : ℕ) → IsAutomaton a → Contains (game_identifiers a) n → line_of (linked_game a) (linked a n) ≡ line_at a n
line_back a n is c =
    let ids : List ℕ = game_identifiers a in
    let xs : List ℕ = rising (leads a (place_in a n)) in
    let named : map (identifier (linked_game a)) (map (place_among ids) xs) ≡ map (slice_index ids) (map (place_among ids) xs) =
    map_same (identifier (linked_game a)) (slice_index ids) (map (place_among ids) xs)
    (λ v. identifier_is (linked_game a) v ∙ ap (λ (ms : List ℕ). slice_index ms v) (identifiers_of a ids)) in
    ap (λ (s : List ℕ). let line : Line = record (line_at a n) { successors = s } in line)
    (named ∙ back ids xs (λ q d. leads_listed a n q is c d))

lines_back : (a : Automaton) (ns : List ℕ) → IsAutomaton a → ((n : ℕ) → Contains ns n → Contains (game_identifiers a) n)
    → map (line_of (linked_game a)) (map (linked a) ns) ≡ map (line_at a) ns
lines_back a [] is h = refl
lines_back a (n ∷ ns) is h =
    rw (line_back a n is (h n (contains_here n ns)), lines_back a ns is (λ q c. h q (contains_later n ns q c))) refl

pub linked_is : (a : Automaton) → IsAutomaton a → lines.IsGameOf (game_lines a) (linked_game a)
linked_is a is =
    let ids : List ℕ = game_identifiers a in
    let long : length (linked_game a) ≡ length ids = length-map ids (linked a) in
    record {
      well = game_from_sound (linked_game a)
          (let c = listed a Dead tt in let l : c.0 < length ids = c.1 in omega arith)
          (subst IsStrictlyIncreasing (sym (identifiers_of a ids)) (rising_rises (all_identifiers a)))
          (subst (λ (k : ℕ). All (IsSound k) (linked_game a)) (sym long) (all_sound a ids is (λ q c. c)));
      same = subst (IsPermutation (game_lines a)) (sym (lines_back a ids is (λ q c. c))) (IsPermutation-refl (game_lines a));
    }

-- ---- its size

count_edges : (a : Automaton) (ns : List ℕ) → edge_count (map (linked a) ns) ≡ sum_by (edges_of a) ns
count_edges a [] = refl
count_edges a (n ∷ ns) =
    omega (
      arith,
      sum_by-cons (λ (x : GameVertex). length x.successors) (linked a n) (map (linked a) ns),
      sum_by-cons (edges_of a) n ns,
      length-map (rising (leads a (place_in a n))) (place_among (game_identifiers a)),
      count_edges a ns,
    )

pub vertices_are : (a : Automaton) → length (linked_game a) ≡ length (game_identifiers a)
vertices_are a = length-map (game_identifiers a) (linked a)

pub edges_are : (a : Automaton) → edge_count (linked_game a) ≡ sum_by (edges_of a) (game_identifiers a)
edges_are a = count_edges a (game_identifiers a)
