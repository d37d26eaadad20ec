-- There is a least progress measure: lifts from zeros come to an end.
use Rattle.pg_map.proofs.Common.{◌≡◌, ℕ, zero, suc, ◌+◌, ◌<◌, ◌≤◌, Some, None, List, length, take, get_or, set, ◌⊎◌, refl, ap, sym, ◌∙◌}
use Rattle.pg_map.proofs.Common.{inl, inr, arith, subst, nat_tests, All, Option, IsSome, nat_le, cases_lt, cases_eq, get_or_default}
use Rattle.pg_map.proofs.Common.{get_or-set_same, All-set, count_by-le-length, Player, Even, Odd, BoundList, MeasureValue, Fits, IsBelow}
use Rattle.pg_map.proofs.Common.{is_odd, width_from, FrontAtMost, at_most_same, below_at_most, below_or, below_or_at_most, least_cover}
use Rattle.pg_map.proofs.Common.{Line, AreWithin, line_at, measure_at, zero_map, IsServed, IsLeastServing, IsLifted, IsLeastClosedFrom}
use Rattle.pg_map.proofs.Common.{map_weight, HasLeastProgressMeasure, map_transitive, IsBetter, IsBest}
use Rattle.pg_map.proofs.Bests.{BestSoFar, taken, left}
use Rattle.pg_map.proofs.Lifts.{least_serving}
use Rattle.pg_map.proofs.Above.{fits_at, lift_stays_under, lifted_length, stays_trans}
use Rattle.pg_map.proofs.Joins.{zero_map_is}
use Rattle.pg_map.proofs.Passes.{covers_more, lifted_above}
use Rattle.pg_map.proofs.Weights.{lift_falls}
use Rattle.pg_map.proofs.Least.{least_from_zero}

-- a best successor

front_or : (k : ℕ) (m n : MeasureValue) → FrontAtMost k m n ⊎ FrontAtMost k n m
front_or k None None = inl tt
front_or k None (Some ys) = inr tt
front_or k (Some xs) None = inl tt
front_or k (Some xs) (Some ys) = elim (below_or (take k xs) (take k ys)) [
  | inl less ↦ inl (below_at_most (take k xs) (take k ys) less)
  | inr more ↦ inr more
]

better_or : (o : Player) (k : ℕ) (m n : MeasureValue) → IsBetter o k m n ⊎ IsBetter o k n m
better_or Even k m n = front_or k m n
better_or Odd k m n = front_or k n m

best_upto : (o : Player) (front : ℕ) (f : List MeasureValue) (ss : List ℕ) → 0 < length ss → (i : ℕ) → i ≤ length ss
    → (b : ℕ) × BestSoFar o front f ss i b
best_upto o front f ss some zero le = (
  get_or ss 0 0,
  record { among = (0, get_or ss 0 0, some, get_or_default ss 0 (get_or ss 0 0) 0 some, refl); best = λ k d l. absurd (omega arith) },
)
best_upto o front f ss some (suc i) le = go (best_upto o front f ss some i (omega arith))
  where
    next : (b : ℕ) → BestSoFar o front f ss (i + 1) b → BestSoFar o front f ss (suc i) b
    next b s = let e : i + 1 ≡ suc i = omega arith in subst (λ n. BestSoFar o front f ss n b) e s

    go : (b : ℕ) × BestSoFar o front f ss i b → (b : ℕ) × BestSoFar o front f ss (suc i) b
    go (b, s) =
        let u = get_or ss i 0 in
        elim (better_or o front (measure_at f u) (measure_at f b)) [
          | inl better ↦ (u, next u (taken o front f ss i b u (omega arith) refl better s))
          | inr worse ↦ (b, next b (left o front f ss i b u (omega arith) refl worse s))
        ]

best_successor : (o : Player) (front : ℕ) (f : List MeasureValue) (ss : List ℕ) → 0 < length ss → (w : ℕ) × IsBest o front f ss w
best_successor o front f ss some = grind (arith, nat_tests, best_upto o front f ss some (length ss) (omega arith))

module _ (bs : BoundList) (lines : ℕ → Option Line) (n : ℕ) (within : AreWithin n lines) where
  -- the least measure that serves a vertex
  serving : (f : List MeasureValue) (v : ℕ) → All (Fits bs) f → IsSome (lines v) → (m : MeasureValue) × IsLeastServing bs lines f v m
  serving f v fits some =
      let l = line_at lines v in
      let best = best_successor l.owner (width_from bs l.priority) f l.successors (within.nonempty v some) in
      let cover = least_cover bs (is_odd l.priority) (width_from bs l.priority) (measure_at f best.0) (fits_at bs f best.0 fits)
      (count_by-le-length (λ (b : ℕ × ℕ). nat_le l.priority b.0) bs) in
      let least = least_serving bs l f v best.0 cover.0 best.1 cover.1 in
      (cover.0, record { fits = least.fits; covers = least.covers; least = least.least })

  -- a vertex with a line is served, or can be lifted
  served_or_lifted : (f : List MeasureValue) (v : ℕ) → length f ≡ n → All (Fits bs) f → IsSome (lines v)
      → IsServed bs lines f v ⊎ ((g : List MeasureValue) × IsLifted bs lines f g v)
  served_or_lifted f v size fits some = go (serving f v fits some)
    where
      lt : v < length f
      lt = let k : v < n = within.numbers v some in omega arith

      go : (m : MeasureValue) × IsLeastServing bs lines f v m → IsServed bs lines f v ⊎ ((g : List MeasureValue) × IsLifted bs lines f g v)
      go (m, least) = elim (below_or_at_most (measure_at f v) m) [
        | inr le ↦ inl (covers_more (line_at lines v).owner (is_odd (line_at lines v).priority) (width_from bs (line_at lines v).priority) f
            (line_at lines v).successors m (measure_at f v) le least.covers)
        | inl less ↦
            let same : measure_at (set f v m) v ≡ m = get_or-set_same f v m None lt in
            inr (
              set f v m,
              record {
                least = subst (IsLeastServing bs lines f v) (sym same) least;
                above = subst (IsBelow (measure_at f v)) (sym same) less;
                others = ap (set f v) (sym same);
              },
            )
      ]

  held_or_not : (v : ℕ) → IsSome (lines v) ⊎ (IsSome (lines v) → ⊥)
  held_or_not v = go (lines v)
    where
      go : (l : Option Line) → IsSome l ⊎ (IsSome l → ⊥)
      go None = inr (λ some. cc)
      go (Some l) = inl refl

  -- the vertices below m are served, or one of them can be lifted
  all_served_or_lifted : (f : List MeasureValue) → length f ≡ n → All (Fits bs) f → (m : ℕ)
      → ((v : ℕ) → v < m → IsSome (lines v) → IsServed bs lines f v)
      ⊎ ((v : ℕ) × IsSome (lines v) × ((g : List MeasureValue) × IsLifted bs lines f g v))
  all_served_or_lifted f size fits zero = inl (λ v lt. absurd (omega arith))
  all_served_or_lifted f size fits (suc m) = go (all_served_or_lifted f size fits m) (held_or_not m)
    where
      more : ((v : ℕ) → v < m → IsSome (lines v) → IsServed bs lines f v) → (IsSome (lines m) → IsServed bs lines f m)
          → (v : ℕ) → v < suc m → IsSome (lines v) → IsServed bs lines f v
      more below here v lt some = elim (cases_lt v m) [
        | inl less ↦ below v less some
        | inr le ↦ let e : m ≡ v = omega arith in subst (λ u. IsServed bs lines f u) e (here (subst (λ u. IsSome (lines u)) (sym e) some))
      ]

      go : ((v : ℕ) → v < m → IsSome (lines v) → IsServed bs lines f v)
          ⊎ ((v : ℕ) × IsSome (lines v) × ((g : List MeasureValue) × IsLifted bs lines f g v))
          → IsSome (lines m) ⊎ (IsSome (lines m) → ⊥)
          → ((v : ℕ) → v < suc m → IsSome (lines v) → IsServed bs lines f v)
          ⊎ ((v : ℕ) × IsSome (lines v) × ((g : List MeasureValue) × IsLifted bs lines f g v))
      go (inr found) held = inr found
      go (inl below) (inr none) = inl (more below (λ some. absurd (none some)))
      go (inl below) (inl some) = elim (served_or_lifted f m size fits some) [
        | inl served ↦ inl (more below (λ _. served))
        | inr lifted ↦ inr (m, some, lifted)
      ]

  closed_itself : (f : List MeasureValue) → All (Fits bs) f → ((v : ℕ) → v < n → IsSome (lines v) → IsServed bs lines f v)
      → IsLeastClosedFrom bs lines f f
  closed_itself f fits served = record {
    map = record { size = refl; fits = fits };
    above = λ v. at_most_same (measure_at f v);
    closed = λ v some. served v (within.numbers v some) some;
    least = λ h m c under. under;
  }

  -- what is least from the map after a lift is least from the map before
  after_lift : (f g h : List MeasureValue) (v : ℕ) → IsSome (lines v) → IsLifted bs lines f g v → IsLeastClosedFrom bs lines g h
      → IsLeastClosedFrom bs lines f h
  after_lift f g h v some lifted l = record {
    map = record { size = l.map.size ∙ lifted_length bs lines f g v lifted; fits = l.map.fits };
    above = map_transitive f g h (λ u. lifted_above bs lines f g v u lifted (cases_eq u v)) l.above;
    closed = l.closed;
    least = stays_trans bs lines f g h (lifted_length bs lines f g v lifted) (lift_stays_under bs lines f g v some lifted) l.least;
  }

  lifted_fits : (f g : List MeasureValue) (v : ℕ) → IsLifted bs lines f g v → All (Fits bs) f → All (Fits bs) g
  lifted_fits f g v lifted fits = subst (All (Fits bs)) (sym lifted.others) (All-set (Fits bs) f v (measure_at g v) lifted.least.fits fits)

  -- lifts come to an end, since each lowers the weight
  lifted_to_end : (k : ℕ) (f : List MeasureValue) → map_weight bs f ≤ k → length f ≡ n → All (Fits bs) f
      → (g : List MeasureValue) × IsLeastClosedFrom bs lines f g
  lifted_to_end zero f le size fits = elim (all_served_or_lifted f size fits n) [
    | inl served ↦ (f, closed_itself f fits served)
    | inr (v, some, (g, lifted)) ↦
        let lt : v < length f = let k : v < n = within.numbers v some in omega arith in
        let falls = lift_falls bs lines f g v lt lifted in
        absurd (omega arith)
  ]
  lifted_to_end (suc k) f le size fits = elim (all_served_or_lifted f size fits n) [
    | inl served ↦ (f, closed_itself f fits served)
    | inr (v, some, (g, lifted)) ↦
        let lt : v < length f = let k : v < n = within.numbers v some in omega arith in
        let falls = lift_falls bs lines f g v lt lifted in
        let r = lifted_to_end k g (omega arith) (lifted_length bs lines f g v lifted ∙ size) (lifted_fits f g v lifted fits) in
        (r.0, after_lift f g r.0 v some lifted r.1)
  ]

pub has_least_progress_measure : HasLeastProgressMeasure
has_least_progress_measure bs lines n within =
    let zeros = zero_map_is bs n in
    let found = lifted_to_end bs lines n within (map_weight bs (zero_map bs n)) (zero_map bs n) (omega arith) zeros.size zeros.fits in
    (found.0, least_from_zero bs lines n found.0 found.1)
