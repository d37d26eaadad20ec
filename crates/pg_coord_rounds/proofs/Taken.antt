-- What is taken of links that tell their replies, round by round.
use Rattle.pg_coord_rounds.proofs.Common.{◌≡◌, ℕ, ◌+◌, ◌-◌, ◌^◌, min, ◌<◌, List, [], ◌∷◌, ◌++◌, take, drop, length, get_or, slice_index_or}
use Rattle.pg_coord_rounds.proofs.Common.{Option, refl, sym, ◌∙◌, ap, subst, arith, inl, inr, cases_lt, append-nil, take_all, drop_all, take_more}
use Rattle.pg_coord_rounds.proofs.Common.{drop_more, drop-drop, flat_map-append, All-append, MeasureValue, AtMost, game_line, MapValue, MapAtMost}
use Rattle.pg_coord_rounds.proofs.Common.{IsClosed, IsNeverAbove, measure_at, Measured, IsAtLeast, LinkState, Reply, missing, measures_of}
use Rattle.pg_coord_rounds.proofs.Common.{received, IsLeastOverReplies, TaskValue, IsClosedMap, reply_measures, Tells, AllTell, IsRoundOver}
use Rattle.pg_coord_rounds.proofs.Common.{all_left, all_right}
use Rattle.pg_coord_rounds.proofs.Joins.{at_least_after}
use Rattle.pg_coord_rounds.proofs.Ends.{closed_map}

no_reply : Reply
no_reply = record { values = []; ending = missing }

-- one reply more, or none
pub taken_more : (n : ℕ) (rs : List Reply) → measures_of (take (n + 1) rs) ≡ measures_of (take n rs) ++ measures_of (take 1 (drop n rs))
taken_more n rs =
    elim (cases_lt n (length rs)) [
      | inl lt ↦
          let r = get_or rs n no_reply in
          let first : take 1 (drop n rs) ≡ r ∷ [] = ap (take 1) (drop_more rs n no_reply lt) in
          ap measures_of (take_more rs n no_reply lt) ∙ flat_map-append reply_measures (take n rs) (r ∷ [])
          ∙ ap (λ (qs : List Reply). measures_of (take n rs) ++ measures_of qs) (sym first)
      | inr past ↦
          let none : take 1 (drop n rs) ≡ [] = ap (take 1) (drop_all n rs past) in
          ap measures_of (take_all (n + 1) rs (omega arith) ∙ sym (take_all n rs past)) ∙ sym (append-nil (measures_of (take n rs)))
          ∙ ap (λ (qs : List Reply). measures_of (take n rs) ++ measures_of qs) (sym none)
    ]

-- Of the replies of each link that are received one was taken in each round, while there was one left. The map is at least the
-- measures in these, and
-- at most every closed map that is at least the first map and these.
pub record HasTaken {L : Type 0} (told : L → Option (List (List ℕ))) (t : TaskValue) (replies : ℕ → List Reply) (rounds : ℕ) (states : List LinkState)
    (links : List L)
    (f g : List MeasureValue) : Type 0 where
  pub taken : ℕ
  pub counted : rounds ≡ min taken (2 ^ 64 - 1)
  pub tell : AllTell told t states links (λ k. drop taken (replies k))
  pub above : (k : ℕ) → k < length links → IsAtLeast g (measures_of (take taken (replies k)))
  pub least : (h : MapValue) → IsClosedMap t h → MapAtMost f h.measures
      → ((k : ℕ) → k < length links → IsAtLeast h.measures (measures_of (take taken (replies k))))
      → MapAtMost g h.measures

pub none_taken : {L : Type 0} (told : L → Option (List (List ℕ))) (t : TaskValue) (replies : ℕ → List Reply) (states : List LinkState) (links : List L)
    (f : List MeasureValue)
    → AllTell told t states links replies → HasTaken told t replies 0 states links f f
none_taken told t replies states links f tell = record {
  taken = 0;
  counted = refl;
  tell = tell;
  above = λ k lt i d l. absurd (omega arith);
  least = λ h closed le each. le;
}

under_more : (h : List MeasureValue) (n : ℕ) (rs : List Reply) → IsAtLeast h (measures_of (take n rs)) → IsAtLeast h (measures_of (take 1 (drop n rs)))
    → IsAtLeast h (measures_of (take (n + 1) rs))
under_more h n rs a b =
    subst (IsAtLeast h) (sym (taken_more n rs))
    (All-append (λ m. AtMost m.1 (measure_at h m.0)) (measures_of (take n rs)) (measures_of (take 1 (drop n rs))) a b)

under_less : (h : List MeasureValue) (n : ℕ) (rs : List Reply) → IsAtLeast h (measures_of (take (n + 1) rs))
    → IsAtLeast h (measures_of (take n rs)) × IsAtLeast h (measures_of (take 1 (drop n rs)))
under_less h n rs a =
    let both : IsAtLeast h (measures_of (take n rs) ++ measures_of (take 1 (drop n rs))) = subst (IsAtLeast h) (taken_more n rs) a in
    let Under : Measured → Type 0 = λ m. AtMost m.1 (measure_at h m.0) in (
      all_left Under (measures_of (take n rs)) (measures_of (take 1 (drop n rs))) both,
      all_right Under (measures_of (take n rs)) (measures_of (take 1 (drop n rs))) both,
    )

-- a round takes one reply more of each link, or none
pub round_taken : {L : Type 0} (told : L → Option (List (List ℕ))) (t : TaskValue) (replies : ℕ → List Reply) (rounds rounds' : ℕ)
    (states states' : List LinkState)
    (links links' : List L) (f g g' : List MeasureValue) (taken : HasTaken told t replies rounds states links f g)
    → rounds' ≡ min (rounds + 1) (2 ^ 64 - 1) → length links' ≡ length links → MapAtMost g g'
    → AllTell told t states' links' (λ k. drop 1 (drop taken.taken (replies k)))
    → IsRoundOver t g (length links) (λ k. measures_of (take 1 (drop taken.taken (replies k)))) g'
    → HasTaken told t replies rounds' states' links' f g'
round_taken told t replies rounds rounds' states states' links links' f g g' h count same risen tell over =
    let n = h.taken in
    record {
      taken = n + 1;
      counted = (let before = h.counted in omega arith);
      tell = λ k d e lt.
          subst (λ (rs : List Reply). Tells t (k + 1) rs (slice_index_or states' k e) (told (slice_index_or links' k d))) (drop-drop 1 n (replies k))
          (tell k d e lt);
      above = λ k lt.
          let old : k < length links = omega arith in
          under_more g' n (replies k) (at_least_after g g' (measures_of (take n (replies k))) risen (h.above k old)) (over.above k old);
      least = λ m closed le each.
          let at : (k : ℕ) → k < length links → IsAtLeast m.measures (measures_of (take (n + 1) (replies k))) = λ k lt. each k (omega arith) in
          over.least m closed (h.least m closed le (λ k lt. (under_less m.measures n (replies k) (at k lt)).0))
          (λ k lt. (under_less m.measures n (replies k) (at k lt)).1);
    }

-- the least closed map that is at least what was taken
pub least_over : {L : Type 0} (told : L → Option (List (List ℕ))) (t : TaskValue) (replies : ℕ → List Reply) (rounds : ℕ)
    (states : List LinkState) (links : List L)
    (count : ℕ) (f g : MapValue) → HasTaken told t (λ k. received 3 (replies k)) rounds states links f.measures g.measures
    → length links ≡ count → f.bounds ≡ t.bounds
    → length f.measures ≡ length t.game → g.bounds ≡ f.bounds → length g.measures ≡ length t.game → IsClosed g.bounds (game_line t.game) g.measures
    → IsNeverAbove f.bounds (game_line t.game) f.measures → IsLeastOverReplies (game_line t.game) rounds count replies g
least_over told t replies rounds states links count f g h same bounds size stay width closed first = record {
  made = h.taken;
  counted = h.counted;
  closed = closed;
  above = λ k lt. h.above k (omega arith);
  least = λ m is at each.
      let one = closed_map t g m (stay ∙ bounds) width is at in
      h.least (record { bounds = t.bounds; measures = m }) one (first m (rw (bounds, size) one.map) (rw bounds one.closed))
      (λ k lt. each k (omega arith));
}
