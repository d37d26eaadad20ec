-- A solution is sound exactly if no edge that counts leaves a region and no bad cycle counts.
use Rattle.pg_check.proofs.Common.{◌≡◌, ℕ, zero, suc, ◌+◌, ◌<◌, ◌≤◌, inl, inr, Bool, cond, eqb, List, [], ◌∷◌, ◌++◌, length, map, get_or}
use Rattle.pg_check.proofs.Common.{arith, sym, subst, refl, ◌∙◌, count_by, All, Contains, eqb-true, eq-eqb, cases_lt, append-nil}
use Rattle.pg_check.proofs.Common.{map-append, get_or_past, All-nil, All-cons, All-head, All-tail, All-append, All-map}
use Rattle.pg_check.proofs.Common.{Contains-append_left, sum_by-append, sum_by-cons, GameVertex, IsGame, IsEdge, IsPath, HasParityOf}
use Rattle.pg_check.proofs.Common.{opponent, priority, nowhere, Answer, winner, loser, Counts, IsSound, NoneLeaves, IsSafe, IsBadCycle}
use Rattle.pg_check.proofs.Common.{IsWay, way_part, way_later, path_keeps, path_upto, path_join, all_front, all_later, all_part, Repeat}
use Rattle.pg_check.proofs.Common.{repeat_or_few, all_unmap}

pub count-cons : (test : ℕ → Bool) (x : ℕ) (xs : List ℕ) → count_by test (x ∷ xs) ≡ cond (test x) 1 0 + count_by test xs
count-cons test x xs = sum_by-cons (λ y. cond (test y) 1 0) x xs

-- a priority that occurs is met at least once
pub met_once : (f : ℕ → ℕ) (p : ℕ) (xs : List ℕ) (k : ℕ) → k < length (map f xs) → get_or (map f xs) k p ≡ p
    → 1 ≤ count_by (λ x. eqb (f x) p) xs
met_once f p [] k h e = omega arith
met_once f p (x ∷ xs) zero h e =
    rw count-cons (rw (eq-eqb (f x) p e) (omega arith))
met_once f p (x ∷ xs) (suc k) h e =
    let le : 1 ≤ count_by (λ y. eqb (f y) p) xs = met_once f p xs k (omega arith) e in
    rw count-cons (omega arith)

pub edge_from : (game : List GameVertex) (v w : ℕ) → IsEdge game v w → v < length game
edge_from game v w h = elim (cases_lt v (length game)) [
  | inl lt ↦ lt
  | inr le ↦
      let none : h.0 < length (GameVertex.successors nowhere) =
      subst (λ x. h.0 < length (GameVertex.successors x)) (get_or_past game v nowhere le) h.1 in
      omega arith
]

-- safe solutions are sound

-- a bad cycle through v on which nothing has a greater priority than v
pub record IsBadCycleFrom (game : List GameVertex) (solution : List Answer) (v : ℕ) (rest : List ℕ) : Type 0 where
  pub closes : IsPath (Counts game solution) v (rest ++ v ∷ [])
  pub greatest : All (λ w. priority game w ≤ priority game v) rest
  pub lost : HasParityOf (loser solution v) (priority game v)

pub cycle_from_repeat : (game : List GameVertex) (solution : List Answer) (v p : ℕ) (part : List ℕ)
    → IsWay (Counts game solution) part → All (λ x. winner solution x ≡ winner solution v) part
    → All (λ x. priority game x ≤ p) part → HasParityOf (loser solution v) p
    → (r : Repeat (λ x. eqb (priority game x) p) part) → IsBadCycleFrom game solution r.twice r.between
cycle_from_repeat game solution v p part way same above parity r =
    let cycle = r.twice ∷ (r.between ++ r.twice ∷ r.after) in
    let is_p : priority game r.twice ≡ p = eqb-true (priority game r.twice) p r.passes in
    let above_cycle : All (λ x. priority game x ≤ p) cycle =
    all_later (λ x. priority game x ≤ p) r.before cycle (subst (All (λ x. priority game x ≤ p)) r.splits above) in
    let same_cycle : All (λ x. winner solution x ≡ winner solution v) cycle =
    all_later (λ x. winner solution x ≡ winner solution v) r.before cycle (subst (All (λ x. winner solution x ≡ winner solution v)) r.splits same) in
    let same_twice : winner solution r.twice ≡ winner solution v =
    All-head (λ x. winner solution x ≡ winner solution v) r.twice (r.between ++ r.twice ∷ r.after) same_cycle in
    record {
      closes = path_upto (Counts game solution) r.twice r.between r.twice r.after
          (way_later (Counts game solution) r.before cycle (subst (IsWay (Counts game solution)) r.splits way));
      greatest = subst (λ q. All (λ x. priority game x ≤ q) r.between) (sym is_p)
          (all_front (λ x. priority game x ≤ p) r.between (r.twice ∷ r.after)
          (All-tail (λ x. priority game x ≤ p) r.twice (r.between ++ r.twice ∷ r.after) above_cycle));
      lost = subst (λ w. HasParityOf (opponent w) (priority game r.twice)) (sym same_twice)
          (subst (HasParityOf (loser solution v)) (sym is_p) parity);
    }

pub sound_from_no_cycle : (game : List GameVertex) (solution : List Answer) → IsGame game → NoneLeaves game solution
    → ((v : ℕ) (rest : List ℕ) → ¬ IsBadCycleFrom game solution v rest) → IsSound game solution
sound_from_no_cycle game solution is_game none_leaves no_cycle v rest lt path =
    let same : All (λ x. winner solution x ≡ winner solution v) (v ∷ rest) =
    path_keeps (Counts game solution) (λ x. winner solution x ≡ winner solution v)
    (λ u w e s. none_leaves u w s ∙ e) v rest path refl in
    let below : All (λ x. x < length game) (v ∷ rest) =
    path_keeps (Counts game solution) (λ x. x < length game) (λ u w h s. is_game.in_range u w s.0) v rest path lt in
    record {
      stays = All-tail (λ x. winner solution x ≡ winner solution v) v rest same;
      counts = λ before part after e p greatest parity.
          elim (repeat_or_few (length game) (λ x. eqb (priority game x) p) part
          (all_part (λ x. x < length game) before part after (subst (All (λ x. x < length game)) e below))) [
            | inl r ↦ absurd (no_cycle r.twice r.between
                (cycle_from_repeat game solution v p part
                (way_part (Counts game solution) before part after (subst (IsWay (Counts game solution)) e path))
                (all_part (λ x. winner solution x ≡ winner solution v) before part after (subst (All (λ x. winner solution x ≡ winner solution v)) e same))
                (all_unmap (priority game) (λ q. q ≤ p) part greatest.above_all) parity r))
            | inr le ↦ le
          ];
    }

-- such a cycle is a bad cycle
pub bad_cycle_from : (game : List GameVertex) (solution : List Answer) (v : ℕ) (rest : List ℕ)
    → IsBadCycleFrom game solution v rest → IsBadCycle game solution v rest
bad_cycle_from game solution v rest r = record {
  closes = r.closes;
  lost = (
    priority game v,
    record {
      occurs = (0, omega arith, refl);
      above_all = All-map (λ q. q ≤ priority game v) (priority game) (v ∷ rest)
          (All-cons (λ x. priority game x ≤ priority game v) v rest (omega arith) r.greatest);
    },
    r.lost,
  );
}

pub sound_from_safe : (game : List GameVertex) (solution : List Answer) → IsGame game → IsSafe game solution → IsSound game solution
sound_from_safe game solution is_game safe =
    sound_from_no_cycle game solution is_game safe.none_leaves
    (λ v rest r. safe.no_bad_cycle v rest (bad_cycle_from game solution v rest r))

-- sound solutions are safe

-- from v along the cycle, so many times
abbrev laps : ℕ → List ℕ → ℕ → List ℕ
laps v rest zero = []
laps v rest (suc k) = rest ++ v ∷ laps v rest k

path_laps : (Step : ℕ → ℕ → Type 0) (v : ℕ) (rest : List ℕ) (k : ℕ) → IsPath Step v (rest ++ v ∷ []) → IsPath Step v (laps v rest k)
path_laps Step v rest zero h = tt
path_laps Step v rest (suc k) h = path_join Step v rest v (laps v rest k) h (path_laps Step v rest k h)

all_laps : (P : ℕ → Type 0) (v : ℕ) (rest : List ℕ) (k : ℕ) → All P (v ∷ rest) → All P (v ∷ laps v rest k)
all_laps P v rest zero h = All-cons P v [] (All-head P v rest h) (All-nil P)
all_laps P v rest (suc k) h = All-append P (v ∷ rest) (v ∷ laps v rest k) h (all_laps P v rest k h)

count_laps : (test : ℕ → Bool) (v : ℕ) (rest : List ℕ) (k : ℕ) → 1 ≤ count_by test (v ∷ rest) → k ≤ count_by test (v ∷ laps v rest k)
count_laps test v rest zero h = omega arith
count_laps test v rest (suc k) h =
    let le : k ≤ count_by test (v ∷ laps v rest k) = count_laps test v rest k h in
    let e = sum_by-append (λ y. cond (test y) 1 0) (v ∷ rest) (v ∷ laps v rest k) in
    rw e (omega arith)

pub safe_from_sound : (game : List GameVertex) (solution : List Answer) → IsSound game solution → IsSafe game solution
safe_from_sound game solution sound = record {
  none_leaves = λ v w s.
      All-head (λ x. winner solution x ≡ winner solution v) w []
      (sound v (w ∷ []) (edge_from game v w s.0) (s, tt)).stays;
  no_bad_cycle = λ v rest b. too_often v rest b;
}
  where
    starts : (v : ℕ) (rest : List ℕ) → IsPath (Counts game solution) v (rest ++ v ∷ []) → v < length game
    starts v [] h = edge_from game v v h.0.0
    starts v (w ∷ rest) h = edge_from game v w h.0.0

    too_often : (v : ℕ) (rest : List ℕ) → ¬ IsBadCycle game solution v rest
    too_often v rest b =
        let p = b.lost.0 in
        let k = suc (length game) in
        let path = path_laps (Counts game solution) v rest k b.closes in
        let whole = v ∷ laps v rest k in
        let g = b.lost.1 in
        let once = met_once (priority game) p (v ∷ rest) g.occurs.0 g.occurs.1 g.occurs.2 in
        let many = count_laps (λ x. eqb (priority game x) p) v rest k once in
        let occurs : Contains (map (priority game) whole) p =
        subst (λ ys. Contains ys p) (sym (map-append (priority game) (v ∷ rest) (v ∷ laps v rest (length game))))
        (Contains-append_left (map (priority game) (v ∷ rest)) (map (priority game) (v ∷ laps v rest (length game))) p g.occurs) in
        let above = All-map (λ q. q ≤ p) (priority game) whole
        (all_laps (λ x. priority game x ≤ p) v rest k (all_unmap (priority game) (λ q. q ≤ p) (v ∷ rest) g.above_all)) in
        let few = (sound v (laps v rest k) (starts v rest b.closes) path).counts [] whole [] (sym (append-nil whole)) p
        (record { occurs = occurs; above_all = above }) b.lost.2 in
        omega (arith, many, few)
