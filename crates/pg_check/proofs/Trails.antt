-- The way back along a trail: a cycle that names no vertex twice.
use Rattle.pg_check.proofs.Common.{◌≡◌, ◌≢◌, ℕ, ◌<◌, ◌≤◌, List, [], ◌∷◌, ◌++◌, length, get_or, arith, sym, subst, refl, ◌∙◌, All, AllPairs}
use Rattle.pg_check.proofs.Common.{All-cons, All-weaker, AllPairs-cons, GameVertex, IsPath, priority, Answer, Counts, IsSimpleCycle}
use Rattle.pg_check.proofs.Common.{IsTrail}

-- x stands after the place
abbrev pub StandsAfter : List ℕ → ℕ → ℕ → Type 0
StandsAfter reached place x = (k : ℕ) × (place < k) × (k < length reached) × (get_or reached k 0 ≡ x)

-- the vertices after the one at a place, up to v again
pub record IsWayBack (game : List GameVertex) (solution : List Answer) (v : ℕ) (reached back : List ℕ) (place : ℕ) : Type 0 where
  pub inside : place < length reached
  pub closes : IsPath (Counts game solution) (get_or reached place 0) (back ++ v ∷ [])
  pub later : All (StandsAfter reached place) back
  pub distinct : AllPairs (λ x y. x ≢ y) back

-- the vertex at the place differs from those after it
apart : (game : List GameVertex) (solution : List Answer) (v : ℕ) (reached before : List ℕ) (end place : ℕ) (back : List ℕ)
    → IsTrail game solution v reached before end → IsWayBack game solution v reached back place
    → AllPairs (λ x y. x ≢ y) (get_or reached place 0 ∷ back)
apart game solution v reached before end place back t w =
    AllPairs-cons (λ x y. x ≢ y) (get_or reached place 0) back
    (All-weaker (StandsAfter reached place) (λ x. get_or reached place 0 ≢ x)
    (λ x (k, lt, inside, e) same. t.distinct place k 0 lt inside (same ∙ sym e)) back w.later) w.distinct

pub way_steps : (game : List GameVertex) (solution : List Answer) (v : ℕ) (reached before : List ℕ) (end place : ℕ) (back : List ℕ)
    → IsTrail game solution v reached before end → 0 < place → IsWayBack game solution v reached back place
    → IsWayBack game solution v reached (get_or reached place 0 ∷ back) (get_or before place 0)
way_steps game solution v reached before end place back t positive w =
    let step = t.steps place positive w.inside in
    let lt : get_or before place 0 < place = step.0 in
    let inside : place < length reached = w.inside in
    record {
      inside = omega arith;
      closes = (step.1, w.closes);
      later = All-cons (StandsAfter reached (get_or before place 0)) (get_or reached place 0) back (place, lt, inside, refl)
          (All-weaker (StandsAfter reached place) (StandsAfter reached (get_or before place 0))
          (λ x (k, after, within, e). (k, omega arith, within, e)) back w.later);
      distinct = apart game solution v reached before end place back t w;
    }

pub way_ends : (game : List GameVertex) (solution : List Answer) (v : ℕ) (reached before : List ℕ) (end place : ℕ) (back : List ℕ)
    → IsTrail game solution v reached before end → place ≡ 0 → IsWayBack game solution v reached back place
    → IsSimpleCycle game solution v (v ∷ back)
way_ends game solution v reached before end place back t start w =
    let first : get_or reached place 0 ≡ v = subst (λ i. get_or reached i 0 ≡ v) (sym start) t.first in (
      back,
      refl,
      record {
        closes = subst (λ x. IsPath (Counts game solution) x (back ++ v ∷ [])) first w.closes;
        greatest = All-weaker (StandsAfter reached place) (λ x. priority game x ≤ priority game v)
            (λ x (k, after, within, e). subst (λ y. priority game y ≤ priority game v) e (t.greatest k 0 within)) back w.later;
      },
      subst (λ x. AllPairs (λ y z. y ≢ z) (x ∷ back)) first (apart game solution v reached before end place back t w),
    )
