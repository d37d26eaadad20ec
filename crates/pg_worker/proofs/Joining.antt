-- Measures that a worker joins to its map one after the other.
use Rattle.pg_worker.proofs.Common.{◌≡◌, ℕ, Bool, List, [], ◌∷◌, ◌++◌, refl, ap, ◌∙◌, arith, MeasureValue, Measured, WorkerValue, CanTake}
use Rattle.pg_worker.proofs.Common.{Takes, joins_none, joins_more, JoinsAll}

same_worker : (w w' : WorkerValue) → w'.bounds ≡ w.bounds → w'.lines ≡ w.lines → w'.kept ≡ w.kept → w'.lifted ≡ w.lifted → w' ≡ record w { map = w'.map }
same_worker w w' a b c d = rw (← a, ← b, ← c, ← d) refl

pub all_joined_none : (w : WorkerValue) → JoinsAll w [] w
all_joined_none w = record { joins = joins_none w.map; others = refl }

pub all_joined_more : (w u u' : WorkerValue) (ms : List Measured) (v : ℕ) (m : MeasureValue) (rose : Bool) → JoinsAll w ms u → CanTake u v m
    → Takes u u' v m rose → JoinsAll w (ms ++ (v, m) ∷ []) u'
all_joined_more w u u' ms v m rose j can t = record {
  joins = joins_more w.map u.map u'.map ms v m rose j.joins can.0 t.part.size t.join.first t.change;
  others = same_worker w u' (t.part.bounds ∙ ap (λ (x : WorkerValue). x.bounds) j.others)
      (t.part.lines ∙ ap (λ (x : WorkerValue). x.lines) j.others) (t.others.0 ∙ ap (λ (x : WorkerValue). x.kept) j.others)
      (t.others.1 ∙ ap (λ (x : WorkerValue). x.lifted) j.others);
}

-- which values can be taken doesn't change
pub can_take_same : (w u : WorkerValue) (ms : List Measured) (v : ℕ) (m : MeasureValue) → JoinsAll w ms u → CanTake w v m → CanTake u v m
can_take_same w u ms v m j can =
    let e = j.others in
    (omega (arith, j.joins.size, can.0), rw e can.1)

pub can_take_back : (w u : WorkerValue) (ms : List Measured) (v : ℕ) (m : MeasureValue) → JoinsAll w ms u → CanTake u v m → CanTake w v m
can_take_back w u ms v m j can =
    let e = j.others in
    (omega (arith, j.joins.size, can.0), rw e at can.1)
