-- Lifts in the map of a replica.
use Rattle.pg_world.proofs.Common.{◌≡◌, ℕ, ◌<◌, Bool, true, false, Option, Some, None, List, length, get_or, refl, sym, ◌∙◌, arith, subst}
use Rattle.pg_world.proofs.Common.{All, Contains, MatchBool, MatchOption, MatchOrdering, is_gt, Ordering, Less, Equal, Greater}
use Rattle.pg_world.proofs.Common.{get_or_default, Contains-get_or, GameVertex, IsGame, successors, Player, Even, Odd, BoundList}
use Rattle.pg_world.proofs.Common.{MeasureValue, OwnedMeasure, AtMost, IsBelow, Covers, IsLeastStep, is_odd, width_from, measure_from}
use Rattle.pg_world.proofs.Common.{FrontAtMost, more_covers, at_most_same, below_is, Line, line_at, only, measure_at, SomeOrAll, IsServed}
use Rattle.pg_world.proofs.Common.{IsLeastServing, IsBetter, IsBest, least_serving, BestSoFar}
use Rattle.std.specs.Ordering.{is_lt}
use Rattle.pg_map.specs.Lines.{line_of}

more_these : (o : Player) (P Q : ℕ → Type 0) (ss : List ℕ) → ((w : ℕ) → P w → Q w) → SomeOrAll o P ss → SomeOrAll o Q ss
more_these Even P Q ss f h = (h.0, h.1, h.2, h.3, f h.1 h.4)
more_these Odd P Q ss f h = λ i d l. f (get_or ss i d) (h i d l)

-- a measure that is at least the least serving one serves
pub served_above : (bs : BoundList) (lines : ℕ → Option Line) (f : List MeasureValue) (v : ℕ) (m : MeasureValue)
    → IsLeastServing bs lines f v m → AtMost m (measure_at f v) → IsServed bs lines f v
served_above bs lines f v m i a =
    let l : Line = line_at lines v in
    more_these l.owner (λ w. Covers bs l.priority m (measure_at f w)) (λ w. Covers bs l.priority (measure_at f v) (measure_at f w)) l.successors
    (λ w c. more_covers (is_odd l.priority) (width_from bs l.priority) m (measure_at f w) (measure_at f v) c a) i.covers

-- the least step over the best successor is the least measure that serves
pub step_serves : (bs : BoundList) (lines : ℕ → Option Line) (f : List MeasureValue) (v w p : ℕ) (o : Player) (ss : List ℕ) (m : MeasureValue)
    → line_at lines v ≡ line_of p o ss → IsBest o (width_from bs p) f ss w → IsLeastStep bs p (measure_at f w) m
    → IsLeastServing bs lines f v m
step_serves bs lines f v w p o ss m e best step = record {
  fits = least.fits;
  covers = subst (λ (l : Line). SomeOrAll l.owner (λ u. Covers bs l.priority m (measure_at f u)) l.successors) (sym e) least.covers;
  least = λ n fits covers. least.least n fits (subst (λ (l : Line). SomeOrAll l.owner (λ u. Covers bs l.priority n (measure_at f u)) l.successors) e covers);
}
  where
    least : IsLeastServing bs (only (line_of p o ss)) f v m
    least = least_serving bs (line_of p o ss) f v w m best (record { fits = step.fits; covers = step.covers; least = step.least })

-- ---- which successor is better

front_of : (bs : BoundList) (p : ℕ) (m n : MeasureValue) → AtMost (measure_from bs p m) (measure_from bs p n) → FrontAtMost (width_from bs p) m n
front_of bs p None None h = tt
front_of bs p None (Some ys) h = h
front_of bs p (Some xs) None h = tt
front_of bs p (Some xs) (Some ys) h = h

at_most_back : (m n : MeasureValue) → m ≡ n → AtMost n m
at_most_back m n e = subst (λ (x : MeasureValue). AtMost n x) (sym e) (at_most_same n)

pub better_for_even : (bs : BoundList) (p : ℕ) (m n : MeasureValue) (r : Ordering)
    → MatchOrdering r (IsBelow (measure_from bs p m) (measure_from bs p n)) (measure_from bs p m ≡ measure_from bs p n)
    (IsBelow (measure_from bs p n) (measure_from bs p m))
    → MatchBool (is_lt r) (IsBetter Even (width_from bs p) m n) (IsBetter Even (width_from bs p) n m)
better_for_even bs p m n Less h = front_of bs p m n (below_is (measure_from bs p m) (measure_from bs p n) h)
better_for_even bs p m n Equal h = front_of bs p n m (at_most_back (measure_from bs p m) (measure_from bs p n) h)
better_for_even bs p m n Greater h = front_of bs p n m (below_is (measure_from bs p n) (measure_from bs p m) h)

pub better_for_odd : (bs : BoundList) (p : ℕ) (m n : MeasureValue) (r : Ordering)
    → MatchOrdering r (IsBelow (measure_from bs p m) (measure_from bs p n)) (measure_from bs p m ≡ measure_from bs p n)
    (IsBelow (measure_from bs p n) (measure_from bs p m))
    → MatchBool (is_gt r) (IsBetter Odd (width_from bs p) m n) (IsBetter Odd (width_from bs p) n m)
better_for_odd bs p m n Less h = front_of bs p m n (below_is (measure_from bs p m) (measure_from bs p n) h)
better_for_odd bs p m n Equal h = front_of bs p m n (at_most_back (measure_from bs p n) (measure_from bs p m) (sym h))
better_for_odd bs p m n Greater h = front_of bs p n m (below_is (measure_from bs p n) (measure_from bs p m) h)

-- a measure is below another, or at least that
pub below_or : (m n : MeasureValue) (r : Ordering) → MatchOrdering r (IsBelow m n) (m ≡ n) (IsBelow n m) → MatchBool (is_lt r) (IsBelow m n) (AtMost n m)
below_or m n Less h = h
below_or m n Equal h = at_most_back m n h
below_or m n Greater h = below_is n m h

-- ---- the successors of a vertex

pub within_game : (game : List GameVertex) (v n : ℕ) (ss : List ℕ) → IsGame game → n ≡ length game → ss ≡ successors game v → All (λ w. w < n) ss
within_game game v n ss g e es = λ i d l.
    let edge : Contains (successors game v) (get_or ss i d) = subst (λ (xs : List ℕ). Contains xs (get_or ss i d)) es (Contains-get_or ss i d l) in
    let below : get_or ss i d < length game = g.in_range v (get_or ss i d) edge in
    omega arith

pub some_successor : (game : List GameVertex) (v : ℕ) (ss : List ℕ) → IsGame game → v < length game → ss ≡ successors game v → 0 < length ss
some_successor game v ss g l es = subst (λ (xs : List ℕ). 0 < length xs) (sym es) (g.goes_on v l)

-- the first successor, before the others are looked at
pub first_best : (o : Player) (front : ℕ) (f : List MeasureValue) (ss : List ℕ) (b d : ℕ) → 0 < length ss → b ≡ get_or ss 0 d → BestSoFar o front f ss 0 b
first_best o front f ss b d l e = record {
  among = (0, b, l, get_or_default ss 0 b d l ∙ sym e, refl);
  best = λ k x m. absurd (omega arith);
}

-- ---- a lift

-- the measure to which a lift raises a vertex, or none
pub lift_found : (bs : BoundList) (lines : ℕ → Option Line) (f : List MeasureValue) (v : ℕ) (m : OwnedMeasure) (b : Bool) (o : Option OwnedMeasure)
    → IsLeastServing bs lines f v m.value → MatchBool b (IsBelow (measure_at f v) m.value) (AtMost m.value (measure_at f v))
    → MatchBool b (o ≡ Some m) (o ≡ None)
    → MatchOption o (IsServed bs lines f v) (λ n. IsLeastServing bs lines f v n.value × IsBelow (measure_at f v) n.value)
lift_found bs lines f v m true o least below e =
    subst (λ (x : Option OwnedMeasure). MatchOption x (IsServed bs lines f v)
    (λ n. IsLeastServing bs lines f v n.value × IsBelow (measure_at f v) n.value)) (sym e) (least, below)
lift_found bs lines f v m false o least most e =
    subst (λ (x : Option OwnedMeasure). MatchOption x (IsServed bs lines f v)
    (λ n. IsLeastServing bs lines f v n.value × IsBelow (measure_at f v) n.value)) (sym e) (served_above bs lines f v m.value least most)
