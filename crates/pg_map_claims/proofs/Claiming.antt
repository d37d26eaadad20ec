-- No closed map is below what is claimed.
use Rattle.std.proofs.Common.{◌≡◌, ℕ, ◌<◌, ◌≤◌, ◌⊎◌, inl, inr, zero, suc, false, ◌++◌, Some, None, List}
use Rattle.std.proofs.Common.{[], ◌∷◌, length, map, replicate, ap, arith, sym, refl, ◌∙◌, subst}
use Rattle.std.specs.Prelude.{Option}
use Rattle.std.specs.Option.{IsSome}
use Rattle.std.proofs.lemmas.Bool.{cases_lt}
use Rattle.std.proofs.lemmas.List.{get_or_past, length-replicate}
use Rattle.pg_measure.specs.Measures.{BoundList, MeasureValue, AtMost, IsBelow, zeros, is_odd, width_from}
use Rattle.pg_measure.proofs.Order.{at_most_all, below_or_at_most, below_not, covers_less, front_at_most}
use Rattle.pg_map.specs.Lines.{Line}
use Rattle.pg_map.specs.Maps.{measure_at, IsServedBy, IsMap, IsClosed, MapAtMost, IsNeverAbove, zero_map}
use Rattle.pg_map.proofs.Above.{fits_at}
use Rattle.pg_map.proofs.Joins.{at_most_top, zero_map_least}
use Rattle.pg_map.proofs.Falls.{Falls, lists, covers_falls, no_odd_cycle}
use Rattle.pg_map.proofs.Parting.{both_serve}
use Rattle.pg_map.proofs.Rounds.{path_weaker, Cycle, has_cycle, greatest_of}
use Rattle.pg_map_claims.specs.Claims.{ClaimSet, claim_line, LeadsTo, IsClaimJustified, IsBackedBy, AreBacked, HasClaimed, IsClaimed}
use Rattle.pg_map_claims.specs.Known.{known_map}
use Rattle.pg_map_claims.specs.Laws.{ClaimsHold, ClaimedStaysUnder, ClaimedIsNeverAbove, ZerosAreKnown}

below_is_list : (m n : MeasureValue) → IsBelow m n → IsSome m
below_is_list None n h = absurd h
below_is_list (Some xs) n h = refl

module _ (bounds : BoundList) (lines : ℕ → Option Line) (g : List MeasureValue) (claims : ClaimSet)
    (backed : AreBacked bounds lines g claims) (count : ℕ) (h : List MeasureValue) (is_map : IsMap bounds count h)
    (closed : IsClosed bounds lines h) (above : MapAtMost g h) where
  abbrev priority : ℕ → ℕ
  priority k = (claim_line lines claims k).priority

  -- the closed map is below claim k
  pub record IsMissed (k : ℕ) : Type 0 where
    pub among : k < claims.count
    pub below : IsBelow (measure_at h (claims.vertex k)) (claims.measure k)

  abbrev FallsTo : ℕ → ℕ → Type 0
  FallsTo k j = LeadsTo claims k j × Falls bounds priority (λ i. lists h (claims.vertex i)) k j

  -- a measure that justifies a missed claim isn't at most that of what serves its vertex
  not_enough : (k w : ℕ) (n : MeasureValue) → IsMissed k → IsServedBy bounds lines h (claims.vertex k) w
      → IsClaimJustified bounds lines claims k n → AtMost n (measure_at h w) → ⊥
  not_enough k w n missed serves justified le =
      let m = measure_at h (claims.vertex k) in
      below_not m (claims.measure k) missed.below (justified m (fits_at bounds h (claims.vertex k) is_map.fits)
      (covers_less (is_odd (priority k)) (width_from bounds (priority k)) m (measure_at h w) n serves
      (front_at_most (width_from bounds (priority k)) n (measure_at h w) le)))

  -- so what backs it by a claim has that one missed
  step : (k w : ℕ) → IsMissed k → IsServedBy bounds lines h (claims.vertex k) w → IsBackedBy bounds lines g claims k w
      → (j : ℕ) × FallsTo k j × IsMissed j
  step k w missed serves (inl known) = absurd (not_enough k w (measure_at g w) missed serves known (above w))
  step k w missed serves (inr by) = go (below_or_at_most (measure_at h (claims.vertex by.claim)) (claims.measure by.claim))
    where
      serves_by : IsServedBy bounds lines h (claims.vertex k) (claims.vertex by.claim)
      serves_by = subst (λ u. IsServedBy bounds lines h (claims.vertex k) u) (sym by.of_vertex) serves

      go : IsBelow (measure_at h (claims.vertex by.claim)) (claims.measure by.claim)
          ⊎ AtMost (claims.measure by.claim) (measure_at h (claims.vertex by.claim)) → (j : ℕ) × FallsTo k j × IsMissed j
      go (inl less) =
          let list = below_is_list (measure_at h (claims.vertex k)) (claims.measure k) missed.below in
          let falls = (covers_falls bounds (priority k) (measure_at h (claims.vertex k))
          (measure_at h (claims.vertex by.claim)) list serves_by).1 in
          (by.claim, (by.leads, falls), record { among = by.leads.to; below = less })
      go (inr le) = absurd (not_enough k (claims.vertex by.claim) (claims.measure by.claim) missed serves_by by.justifies le)

  next : (k : ℕ) → IsMissed k → (j : ℕ) × FallsTo k j × IsMissed j
  next k missed =
      let w = both_serve (claim_line lines claims k).owner (IsServedBy bounds lines h (claims.vertex k))
      (IsBackedBy bounds lines g claims k)
      (claim_line lines claims k).successors (closed (claims.vertex k) (backed.held k missed.among)) (backed.backed k missed.among) in
      step k w.0 missed w.1 w.2

  none_missed : (k : ℕ) → IsMissed k → ⊥
  none_missed k missed = no_cycle (has_cycle claims.count FallsTo IsMissed (λ i m. m.among) next k missed)
    where
      no_cycle : Cycle FallsTo → ⊥
      no_cycle c =
          let q = greatest_of (priority c.start) (map priority c.rest) in
          let odd = backed.cycles c.start c.rest q.0
          (path_weaker FallsTo (LeadsTo claims) (λ u w s. s.0) c.start (c.rest ++ c.start ∷ []) c.closes) q.1 in
          no_odd_cycle bounds priority (λ i. lists h (claims.vertex i)) c.start c.rest q.0
          (path_weaker FallsTo (Falls bounds priority (λ i. lists h (claims.vertex i))) (λ u w s. s.1) c.start (c.rest ++ c.start ∷ [])
          c.closes) q.1 odd

  pub has_claimed : HasClaimed claims h
  has_claimed k among = elim (below_or_at_most (measure_at h (claims.vertex k)) (claims.measure k)) [
    | inl less ↦ absurd (none_missed k (record { among = among; below = less }))
    | inr le ↦ le
  ]

pub claims_hold : ClaimsHold
claims_hold bounds lines g claims backed count h is_map closed above = has_claimed bounds lines g claims backed count h is_map closed above

-- maps that are claimed

pub claimed_stays_under : ClaimedStaysUnder
claimed_stays_under bounds lines g f claims size backed claimed h is_map closed above v = within (cases_lt v (length f))
  where
    has : HasClaimed claims h
    has = has_claimed bounds lines g claims backed (length g) h is_map closed above

    here : AtMost (measure_at f v) (measure_at g v) ⊎ IsClaimed claims v (measure_at f v) → AtMost (measure_at f v) (measure_at h v)
    here (inl low) = at_most_all (measure_at f v) (measure_at g v) (measure_at h v) low (above v)
    here (inr c) =
        at_most_all (measure_at f v) (claims.measure c.claim) (measure_at h v) c.enough
        (subst (λ u. AtMost (claims.measure c.claim) (measure_at h u)) c.of_vertex (has c.claim c.among))

    within : (v < length f) ⊎ (length f ≤ v) → AtMost (measure_at f v) (measure_at h v)
    within (inl lt) = here (claimed v lt)
    within (inr le) =
        let past : length h ≤ v = let same = is_map.size in omega arith in
        subst (λ m. AtMost (measure_at f v) m) (sym (get_or_past h v None past)) (at_most_top (measure_at f v))

pub claimed_is_never_above : ClaimedIsNeverAbove
claimed_is_never_above bounds lines g f claims size never backed claimed h is_map closed =
    let is_map' : IsMap bounds (length g) h = record { size = is_map.size ∙ size; fits = is_map.fits } in
    claimed_stays_under bounds lines g f claims size backed claimed h is_map' closed (never h is_map' closed)

pub zeros_are_known : ZerosAreKnown
zeros_are_known bounds lines count = subst (IsNeverAbove bounds lines) (sym (none_known count)) (λ h is_map closed.
    zero_map_least bounds count h (record { size = is_map.size ∙ length-replicate count (zeros bounds); fits = is_map.fits }))
  where
    none_known : (n : ℕ) → known_map bounds (replicate n false) ≡ zero_map bounds n
    none_known zero = refl
    none_known (suc n) = ap (λ f. zeros bounds ∷ f) (none_known n)
