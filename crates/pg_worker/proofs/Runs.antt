-- Lifts one after the other.
use Rattle.pg_worker.proofs.Common.{◌≡◌, ℕ, ◌+◌, ◌⊎◌, List, [], ◌∷◌, ◌++◌, length, get_or, refl, sym, subst, ◌∙◌, arith, inl, inr, All, Any}
use Rattle.pg_worker.proofs.Common.{Option, IsSome, Contains, cases_lt, get_or_push, get_or_default, get_or-append, BoundList, MeasureValue}
use Rattle.pg_worker.proofs.Common.{owned, Line, measure_at, IsLifted, Update, IsLiftBy, AreLifts, LifterValue, KeepsLines, Lifts}
use Rattle.pg_worker.proofs.Common.{AreListedLifts, part_line}
use Rattle.std.proofs.Common.{length-append}

pub same_lines : (a b c : LifterValue (List (Option Line))) → KeepsLines a b → KeepsLines b c → KeepsLines a c
same_lines a b c p q = record { lines = q.lines ∙ p.lines; bounds = q.bounds ∙ p.bounds; size = q.size ∙ p.size }

-- one more lift, of the lines of the first
pub lift_on : (first old new : LifterValue (List (Option Line))) (v : ℕ) → KeepsLines first old → Lifts part_line old new v
    → IsSome (part_line first.lines v) × IsLifted first.map.bounds (part_line first.lines) old.map.measures new.map.measures v
lift_on first old new v same l = (rw same.lines at l.held, rw (same.lines, same.bounds) at l.lifted)

-- a lift more
pub lifts_more : (bs : BoundList) (lines : ℕ → Option Line) (f g h : List MeasureValue) (us : List Update) (u : Update)
    → AreLifts bs lines f us g → IsLiftBy bs lines g u h → AreLifts bs lines f (us ++ u ∷ []) h
lifts_more bs lines f g h [] u e l = (h, subst (λ (x : List MeasureValue). IsLiftBy bs lines x u h) e l, refl)
lifts_more bs lines f g h (w ∷ ws) u r l = (r.0, r.1, lifts_more bs lines r.0 g h ws u r.2 l)

abbrev pub update_of : BoundList → List MeasureValue → ℕ → Update
update_of bs g v = record { vertex = v; measure = owned (measure_at g v) (length bs) }

pub lift_by : (bs : BoundList) (lines : ℕ → Option Line) (f g : List MeasureValue) (v : ℕ) → IsSome (lines v) → IsLifted bs lines f g v
    → IsLiftBy bs lines f (update_of bs g v) g
lift_by bs lines f g v s l = record { mine = s; lifted = l; measure = refl }

all_more : {X : Type 0} (P : X → Type 0) (xs : List X) (x : X) → All P xs → P x → All P (xs ++ x ∷ [])
all_more P xs x a h = λ i d lt.
    elim (cases_lt i (length xs)) [
      | inl less ↦ subst P (sym (get_or-append xs (x ∷ []) d i less)) (a i d less)
      | inr le ↦ subst P (sym (get_or_push xs x d i (omega (arith, length-append xs (x ∷ []))))) h
    ]

any_more : {X : Type 0} (P : X → Type 0) (xs : List X) (x : X) → Any P xs → Any P (xs ++ x ∷ [])
any_more P xs x a = (a.0, a.1, omega (arith, a.2, length-append xs (x ∷ [])), get_or-append xs (x ∷ []) a.1 a.0 a.2 ∙ a.3, a.4)

any_last : {X : Type 0} (P : X → Type 0) (xs : List X) (x : X) → P x → Any P (xs ++ x ∷ [])
any_last P xs x h = (length xs, x, omega (arith, length-append xs (x ∷ [])), get_or_push xs x x (length xs) refl, h)

-- a lift more, whose vertex is listed
pub listed_more : (bs : BoundList) (lines : ℕ → Option Line) (f g h : List MeasureValue) (vs ws : List ℕ) (v n : ℕ) → IsSome (lines v) → IsLifted bs lines g h v
    → Contains ws v → ((u : ℕ) → Contains vs u → Contains ws u) → ((u : ℕ) → Contains ws u → (u ≡ v) ⊎ Contains vs u)
    → AreListedLifts bs lines f g vs (λ k. k ≡ n) → AreListedLifts bs lines f h ws (λ k. k ≡ n + 1)
listed_more bs lines f g h vs ws v n s lifted there more only a =
    let u = update_of bs h v in
    record {
      updates = a.updates ++ u ∷ [];
      lifts = lifts_more bs lines f g h a.updates u a.lifts (lift_by bs lines g h v s lifted);
      count = omega (arith, a.count, length-append a.updates (u ∷ []));
      each = all_more (λ (x : Update). Contains ws x.vertex) a.updates u (λ i d lt. more _ (a.each i d lt)) there;
      only = λ i d lt. elim (only (get_or ws i d) (i, lt, get_or_default ws i (get_or ws i d) d lt)) [
        | inl e ↦ any_last (λ (x : Update). x.vertex ≡ get_or ws i d) a.updates u (sym e)
        | inr k ↦ any_more (λ (x : Update). x.vertex ≡ get_or ws i d) a.updates u
            (subst (λ (w : ℕ). Any (λ (x : Update). x.vertex ≡ w) a.updates) k.2 (a.only k.0 (get_or ws i d) k.1))
      ];
    }
