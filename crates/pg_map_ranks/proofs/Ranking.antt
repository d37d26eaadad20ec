-- Maps of ranks, vertex by vertex.
use Rattle.pg_map_ranks.proofs.Common.{◌≡◌, ℕ, zero, ◌<◌, inl, inr, Some, None, List, [], ◌∷◌, length, replicate, get_or, arith, sym, refl, ◌∙◌}
use Rattle.pg_map_ranks.proofs.Common.{subst, ap, Option, ◌↔◌, IfSome, IfNone, Contains, IsStrictlyIncreasing, IsSome, cases_lt, length-map}
use Rattle.pg_map_ranks.proofs.Common.{get_or-map, All-contains, All-map, Player, Even, Odd, BoundList, MeasureValue, Fits, zeros, Covers}
use Rattle.pg_map_ranks.proofs.Common.{below_not, Line, line_at, AreWithin, MapValue, measure_at, SomeOrAll, IsServedBy, IsServed}
use Rattle.pg_map_ranks.proofs.Common.{IsFirstServing, IsMap, first_serving_at, row, IsLadder, rank_measure, rank_map, RanksCompare, rank_at}
use Rattle.pg_map_ranks.proofs.Common.{IsUnder, IsFirstUnder, CoversUnder}
use Rattle.std.specs.List.{All}
use Rattle.pg_map_ranks.proofs.Blocking.{rank_list, rank_top, rank_at_most, rank_below}

module _ (bs : BoundList) (steps ranks : List ℕ) where
  pub measure_is : (v : ℕ) → v < length ranks → measure_at (rank_map bs steps ranks) v ≡ rank_measure bs steps (rank_at ranks v)
  measure_is v lt = get_or-map (rank_measure bs steps) ranks v 0 None lt

  pub size_is : (x : MapValue) → record { bounds = bs; measures = rank_map bs steps ranks } ≡ x → length x.measures ≡ length ranks
  size_is x is = ap (λ (y : MapValue). length y.measures) (sym is) ∙ length-map ranks (rank_measure bs steps)

  fits_rank : IsLadder bs steps → (r : ℕ) → Fits bs (rank_measure bs steps r)
  fits_rank ladder r = elim (cases_lt (length steps) r) [
    | inl lt ↦ subst (Fits bs) (sym (rank_top bs steps r lt)) tt
    | inr le ↦ subst (Fits bs) (sym (rank_list bs steps r le)) (ladder.fits r le)
  ]

  pub is_rank_map : IsLadder bs steps → IsMap bs (length ranks) (rank_map bs steps ranks)
  is_rank_map ladder = record {
    size = length-map ranks (rank_measure bs steps);
    fits = All-map (Fits bs) (rank_measure bs steps) ranks (λ k d lt. fits_rank ladder (get_or ranks k d));
  }

  -- what the rank of a vertex covers serves it
  module _ (lines : ℕ → Option Line) (v : ℕ) (some : v < length ranks) (high : Option ℕ)
      (covers : CoversUnder bs steps (line_at lines v).priority (rank_at ranks v) high) where
    pub served_by : (w : ℕ) → w < length ranks → IsUnder high (rank_at ranks w) ↔ IsServedBy bs lines (rank_map bs steps ranks) v w
    served_by w lt =
        subst (λ (x : MeasureValue). IsUnder high (rank_at ranks w) ↔ Covers bs (line_at lines v).priority x
        (measure_at (rank_map bs steps ranks) w))
        (sym (measure_is v some))
        (subst (λ (x : MeasureValue). IsUnder high (rank_at ranks w) ↔ Covers bs (line_at lines v).priority
        (rank_measure bs steps (rank_at ranks v)) x)
        (sym (measure_is w lt)) (covers (rank_at ranks w)))

-- the same for each of the successors
pub each_of : (n : ℕ) (P Q : ℕ → Type 0) → ((w : ℕ) → w < n → P w → Q w) → (o : Player) (ss : List ℕ) → All (λ w. w < n) ss
    → SomeOrAll o P ss → SomeOrAll o Q ss
each_of n P Q f Even ss below any =
    (any.0, any.1, any.2, any.3, f any.1 (All-contains (λ w. w < n) ss any.1 below (any.0, any.2, any.3)) any.4)
each_of n P Q f Odd ss below all = λ k d lt. f (get_or ss k d) (below k d lt) (all k d lt)

pub served : (bs : BoundList) (lines : ℕ → Option Line) (steps ranks : List ℕ) (v : ℕ) (high : Option ℕ) → AreWithin (length ranks) lines
    → IsSome (lines v) → CoversUnder bs steps (line_at lines v).priority (rank_at ranks v) high
    → SomeOrAll (line_at lines v).owner (λ w. IsUnder high (rank_at ranks w)) (line_at lines v).successors
    ↔ IsServed bs lines (rank_map bs steps ranks) v
served bs lines steps ranks v high within some covers = (
  each_of (length ranks) (λ w. IsUnder high (rank_at ranks w)) (IsServedBy bs lines (rank_map bs steps ranks) v)
      (λ w lt. (served_by bs steps ranks lines v (within.numbers v some) high covers w lt).0) (line_at lines v).owner
      (line_at lines v).successors
      (within.successors v some),
  each_of (length ranks) (IsServedBy bs lines (rank_map bs steps ranks) v) (λ w. IsUnder high (rank_at ranks w))
      (λ w lt. (served_by bs steps ranks lines v (within.numbers v some) high covers w lt).1) (line_at lines v).owner
      (line_at lines v).successors
      (within.successors v some),
)

-- the first of the successors that the rank covers is the first that serves
module _ (bs : BoundList) (lines : ℕ → Option Line) (steps ranks : List ℕ) (v : ℕ) (high : Option ℕ)
    (within : AreWithin (length ranks) lines)
    (some : IsSome (lines v)) (covers : CoversUnder bs steps (line_at lines v).priority (rank_at ranks v) high) where
  below : (w : ℕ) → Contains (line_at lines v).successors w → w < length ranks
  below w edge = All-contains (λ u. u < length ranks) (line_at lines v).successors w (within.successors v some) edge

  serves : (w : ℕ) → w < length ranks → IsUnder high (rank_at ranks w) ↔ IsServedBy bs lines (rank_map bs steps ranks) v w
  serves w lt = served_by bs steps ranks lines v (within.numbers v some) high covers w lt

  first : IsStrictlyIncreasing (line_at lines v).successors → (w : ℕ) → IsFirstUnder ranks (line_at lines v).successors high w
      → IsFirstServing bs lines (rank_map bs steps ranks) v w
  first rising w f =
      first_serving_at bs lines (rank_map bs steps ranks) v w f.index (line_at lines v).successors refl rising
      (λ j d lt serving.
      let among = f.among in
      f.before j d lt ((serves (get_or (line_at lines v).successors j d) (within.successors v some j d (omega arith))).1 serving))
      f.among f.is ((serves w (below w (f.index, f.among, f.is))).0 f.under)

  pub first_serves : IsStrictlyIncreasing (line_at lines v).successors → (o : Option ℕ)
      → IfSome o (IsFirstUnder ranks (line_at lines v).successors high) → IfSome o (IsFirstServing bs lines (rank_map bs steps ranks) v)
  first_serves rising None h = h
  first_serves rising (Some w) h = first rising w h

  pub none_serves : (o : Option ℕ) → IfNone o (All (λ w. ¬ IsUnder high (rank_at ranks w)) (line_at lines v).successors)
      → IfNone o ((w : ℕ) → Contains (line_at lines v).successors w → ¬ IsServedBy bs lines (rank_map bs steps ranks) v w)
  none_serves (Some w) h = h
  none_serves None h = λ w edge serving.
      All-contains (λ u. ¬ IsUnder high (rank_at ranks u)) (line_at lines v).successors w h edge ((serves w (below w edge)).1 serving)

-- ranks compare as their measures do

all_zeros : (cs : BoundList) (steps : List ℕ) → row cs steps zero ≡ replicate (length cs) 0
all_zeros [] steps = refl
all_zeros (b ∷ cs) steps = ap (λ t. 0 ∷ t) (all_zeros cs steps)

pub rank_zero : (cs : BoundList) (steps : List ℕ) → rank_measure cs steps zero ≡ zeros cs
rank_zero cs steps = rank_list cs steps zero (omega arith) ∙ ap Some (all_zeros cs steps)

pub ranks_compare : RanksCompare
ranks_compare = record {
  from_zeros = rank_zero;
  compare = λ bs steps i j bounds ladder within. (
    rank_at_most bs steps bounds ladder 0 i j,
    λ le. elim (cases_lt j i) [
      | inl less ↦ absurd (below_not (rank_measure bs steps j) (rank_measure bs steps i)
          (rank_below bs steps bounds ladder j i less (omega arith)) le)
      | inr is ↦ is
    ],
  );
}
