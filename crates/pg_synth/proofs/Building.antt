-- The builder takes each line of the game, if these are within its limits.
use Rattle.pg_synth.proofs.Common.{◌≡◌, ℕ, ◌+◌, ◌<◌, ◌≤◌, false, eqb, List, [], ◌∷◌, length, map, get_or, take, Option, Some, None}
use Rattle.pg_synth.proofs.Common.{arith, refl, sym, ap, subst, ◌∙◌, ◌||◌, Contains, sum_by, IsStrictlyIncreasing, length-map}
use Rattle.pg_synth.proofs.Common.{length-take, get_or-take, Contains-get_or, sum_by-cons, sum_by_more_le, sorted_from_strictly_increasing}
use Rattle.pg_synth.proofs.Common.{below_from_sorted, Player}
use Rattle.pg_synth.proofs.Common.{GameVertex, edge_count, counted, is_named}
use Rattle.pg_synth.proofs.Common.{ArenaFault, TooManyEdges, add_fault, nat_tests, has_none, has, rising_rises, rising_length, Shape, MaxEven}
use Rattle.pg_synth.proofs.Common.{Automaton, IsAutomaton, set_priority, none_priority, place_priority}
use Rattle.pg_synth.proofs.Common.{place_owner, place_name, IsPlaceOf, place_with, place_in, leads, edges_of, line_at, all_identifiers}
use Rattle.pg_synth.proofs.Common.{game_identifiers, IsLayoutOf, Layout, Place, Dead, Arrival, Answer}
use Rattle.pg_synth.proofs.Places.{IsWithin, within_game, place_listed, has_leads}

-- ---- priorities are small

set_small : (shape : Shape) (n s : ℕ) → n ≤ 4096 → s < n → set_priority shape n s ≤ 65535
set_small MaxEven n s h l = omega arith
set_small _ n s h l = omega arith

none_small : (shape : Shape) (n : ℕ) → none_priority shape n ≤ 65535
none_small MaxEven n = omega arith
none_small _ n = omega arith

priority_small : (a : Automaton) (x : Place) → IsAutomaton a → IsWithin a x → place_priority a.shape a.sets x ≤ 65535
priority_small a Dead is h = omega arith
priority_small a (Arrival q None) is h = none_small a.shape a.sets
priority_small a (Arrival q (Some s)) is h = set_small a.shape a.sets s is.few_sets h
priority_small a (Answer q i) is h = omega arith

-- ---- no reason against a line

named_is : (a : Automaton) (ns : List ℕ) (q : ℕ) → is_named (map (line_at a) ns) q ≡ has q ns
named_is a [] q = refl
named_is a (n ∷ ns) q = ap (λ b. eqb q n || b) (named_is a ns q)

edges_so_far : (a : Automaton) (ns : List ℕ) → edge_count (map (line_at a) ns) ≡ sum_by (edges_of a) ns
edges_so_far a [] = refl
edges_so_far a (n ∷ ns) =
    omega (arith, sum_by-cons (λ (x : GameVertex). length x.successors) (line_at a n) (map (line_at a) ns), sum_by-cons (edges_of a) n ns, edges_so_far a ns)

-- only the edges can be too many
pub edges_only : (a : Automaton) (ids : List ℕ) (k : ℕ) (fault : ArenaFault) → IsAutomaton a → ids ≡ game_identifiers a → k < length ids
    → length ids ≤ 1048576 → add_fault (map (line_at a) (take k ids)) (line_at a (get_or ids k 0)) ≡ Some fault
    → (fault ≡ TooManyEdges) × (8388608 < sum_by (edges_of a) ids)
edges_only a ids k fault is e lt vertices refused =
    grind (
      arith,
      refused,
      nat_tests,
      priority_small a (place_in a n) is (within_game a (place_in a n) is place),
      rising_length (leads a (place_in a n)) (has_leads a (place_in a n)),
      named_is a before n ∙ new,
      length-map before (line_at a),
      length-take k ids,
      edges_so_far a before,
      sum_by_more_le (edges_of a) ids k 0 lt,
    )
  where
    n : ℕ
    n = get_or ids k 0

    before : List ℕ
    before = take k ids

    place : IsPlaceOf a (place_in a n)
    place = place_listed a n is (subst (λ (xs : List ℕ). Contains xs n) e (Contains-get_or ids k 0 lt))

    new : has n before ≡ false
    new = has_none n before (λ j l same.
        let short = length-take k ids in
        let at : get_or (take k ids) j 0 ≡ get_or ids j 0 = get_or-take k ids j 0 (omega arith) in
        let up = sorted_from_strictly_increasing ids (subst IsStrictlyIncreasing (sym e) (rising_rises (all_identifiers a))) in
        let less = below_from_sorted ids j k 0 up (omega arith) lt in omega (arith, at, same, less))

-- a line that may follow leaves the edges within the limit
pub few_follow : (a : Automaton) (ids : List ℕ) (k : ℕ) → add_fault (map (line_at a) (take k ids)) (line_at a (get_or ids k 0)) ≡ None
    → sum_by (edges_of a) (take k ids) + edges_of a (get_or ids k 0) ≤ 8388608
few_follow a ids k h = grind (arith, nat_tests, h, edges_so_far a (take k ids))

-- ---- what is added is the line

pub place_at : (a : Automaton) (layout : Layout) (sets n : ℕ) (x : Place) → IsLayoutOf a layout → sets ≡ a.sets
    → x ≡ place_with sets layout.width n → x ≡ place_in a n
place_at a layout sets n x laid e h = h ∙ ap (λ s. place_with s layout.width n) e ∙ ap (λ w. place_with a.sets w n) laid.width

pub is_place : (a : Automaton) (layout : Layout) (ids : List ℕ) (sets k : ℕ) (x : Place) → IsLayoutOf a layout → ids ≡ game_identifiers a
    → k < length ids → sets ≡ a.sets
    → x ≡ place_with sets layout.width (get_or ids k 0) → IsPlaceOf a x
is_place a layout ids sets k x laid e lt s h =
    subst (IsPlaceOf a) (sym (place_at a layout sets (get_or ids k 0) x laid s h))
    (place_listed a (get_or ids k 0) laid.automaton (subst (λ (xs : List ℕ). Contains xs (get_or ids k 0)) e (Contains-get_or ids k 0 lt)))

pub listed_place : (a : Automaton) (ids : List ℕ) (k : ℕ) → IsAutomaton a → ids ≡ game_identifiers a → k < length ids
    → IsPlaceOf a (place_in a (get_or ids k 0))
listed_place a ids k is e lt = place_listed a (get_or ids k 0) is (subst (λ (xs : List ℕ). Contains xs (get_or ids k 0)) e (Contains-get_or ids k 0 lt))

pub line_is : (a : Automaton) (n priority : ℕ) (owner : Player) (successors : List ℕ) (name : Option (List ℕ)) (x : Place) → x ≡ place_in a n
    → priority ≡ place_priority a.shape a.sets x → owner ≡ place_owner x → successors ≡ leads a x → name ≡ Some (place_name x)
    → counted (record { identifier = n; priority = priority; owner = owner; successors = successors; name = name }) ≡ line_at a n
line_is a n priority owner successors name x e p o s m = rw (p, o, s, m, e) refl
