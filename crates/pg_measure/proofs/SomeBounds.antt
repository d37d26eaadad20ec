-- Each game has bounds: they are counted from the greatest priority down.
use Rattle.pg_measure.proofs.Common.{◌≡◌, ◌≢◌, ℕ, zero, suc, ◌+◌, ◌%◌, ◌<◌, ◌≤◌, List, [], ◌∷◌, length, map, get_or, ◌⊎◌, refl, subst, inl}
use Rattle.pg_measure.proofs.Common.{inr, arith, range_with_len, cases_lt, cases_eq, length-map-range_with_len, get_or-map-range_with_len}
use Rattle.pg_measure.proofs.Common.{GameVertex, priority, BoundList, vertices_of, IsCount, HasBounds}
use Rattle.pg_measure.proofs.Counted.{CountedFrom, counted_none, counted_push, counted_skip, counted_is}

-- a number above every priority of the game
pub priority_bound : (game : List GameVertex) → (b : ℕ) × ((v : ℕ) → priority game v < b)
priority_bound [] = (1, λ v. omega arith)
priority_bound (x ∷ xs) =
    let h = priority_bound xs in
    (x.priority + 1 + h.0, elim [ zero ↦ omega arith | suc v ↦ let k : priority xs v < h.0 = h.1 v in omega arith ])

module _ (game : List GameVertex) where
  counts : List ℕ
  counts = map (vertices_of game) (range_with_len 0 (priority_bound game).0)

  counts_length : length counts ≡ (priority_bound game).0
  unfolding counts
  counts_length = length-map-range_with_len (vertices_of game) 0 (priority_bound game).0

  are_counts : IsCount game counts
  unfolding counts
  are_counts = record {
    each = λ p lt. get_or-map-range_with_len (vertices_of game) 0 (priority_bound game).0 p p 0 (omega (arith, counts_length)) (omega arith);
    whole = λ v lt. let b : priority game v < (priority_bound game).0 = (priority_bound game).1 v in omega (arith, counts_length);
  }

  -- the pairs from p on, where p is `left` below the end
  counted_from : (left p : ℕ) → left + p ≡ length counts → (pairs : BoundList) × CountedFrom counts p pairs
  counted_from zero p e = let s : length counts ≡ p = omega arith in ([], subst (λ n. CountedFrom counts n []) s (counted_none counts))
  counted_from (suc left) p e = go (counted_from left (p + 1) (omega arith)) (cases_eq (p % 2) 1) (cases_lt 0 (get_or counts p 0))
    where
      go : (pairs : BoundList) × CountedFrom counts (p + 1) pairs → (p % 2 ≡ 1) ⊎ (p % 2 ≢ 1)
          → (0 < get_or counts p 0) ⊎ (get_or counts p 0 ≤ 0) → (pairs : BoundList) × CountedFrom counts p pairs
      go (pairs, h) (inl odd) (inl some) = (_, counted_push counts p pairs (get_or counts p 0) (omega arith) refl odd some h)
      go (pairs, h) (inr even) some = (pairs, counted_skip counts p pairs (λ odd more. even odd) h)
      go (pairs, h) (inl odd) (inr none) = (pairs, counted_skip counts p pairs (λ _ more. omega arith) h)

pub has_bounds : HasBounds
has_bounds game =
    let found = counted_from game (length (counts game)) 0 (omega arith) in
    (found.0, counted_is game (counts game) found.0 (are_counts game) found.1)
