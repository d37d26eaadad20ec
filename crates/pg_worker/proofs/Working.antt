-- What a worker holds after a call.
use Rattle.pg_worker.proofs.Common.{◌≡◌, ℕ, zero, suc, ◌+◌, ◌<◌, ◌≤◌, List, [], ◌∷◌, ◌++◌, ◌∙◌, length, length-set, get_or, set, subst, sym, refl}
use Rattle.pg_worker.proofs.Common.{arith, inl, inr, Some, None, All, Option, IsSome, replicate, cases_eq, get_or-set_same}
use Rattle.pg_worker.proofs.Common.{get_or-set_other, Line, AreWithin, part_line, LifterValue, KeepsLines, VertexLine, told_line, WorkerValue}
use Rattle.pg_worker.proofs.Common.{AreLifts, with_lines, AreAbove, Update, IsNext}
use Rattle.pg_worker.specs.Workers.{Lifts}
use Rattle.pg_worker.proofs.Steps.{lifts_stay_under}

-- ---- no lines

none_some : (n v : ℕ) → IsSome (part_line (replicate n None) v) → ⊥
none_some zero v s = absurd cc
none_some (suc n) zero s = absurd cc
none_some (suc n) (suc v) s = none_some n v s

pub none_within : (n m : ℕ) → AreWithin m (part_line (replicate n None))
none_within n m = record {
  numbers = λ v s. absurd (none_some n v s);
  successors = λ v s. absurd (none_some n v s);
  nonempty = λ v s. absurd (none_some n v s);
}

pub next_empty : (n : ℕ) → IsNext (replicate n None) 0
next_empty n = record {
  above = λ v s. absurd (none_some n v s);
  least = λ m a. omega arith;
}

-- ---- a line more

-- v is the greatest vertex now
pub next_after : (lines : List (Option Line)) (v next : ℕ) (l : Line) → v < length lines → next ≤ v → IsNext lines next
    → IsNext (set lines v (Some l)) (v + 1)
next_after lines v next l lt le n = record {
  above = λ u s. elim (cases_eq u v) [
    | inl q ↦ omega arith
    | inr ne ↦ let k = n.above u (subst (λ (o : Option Line). IsSome o) (get_or-set_other lines v u (Some l) None ne) s) in omega arith
  ];
  least = λ m all.
      let k = all v (subst (λ (o : Option Line). IsSome o) (sym (get_or-set_same lines v (Some l) None lt)) refl) in
      omega arith;
}

pub with_lines_more : (ls : List (Option Line)) (ys : List VertexLine) (y : VertexLine)
    → with_lines ls (ys ++ y ∷ []) ≡ set (with_lines ls ys) y.vertex (Some (told_line y))
with_lines_more ls [] y = refl
with_lines_more ls (x ∷ xs) y = with_lines_more (set ls x.vertex (Some (told_line x))) xs y

pub with_lines_size : (lines : List (Option Line)) (ls : List VertexLine) → length (with_lines lines ls) ≡ length lines
with_lines_size lines [] = refl
with_lines_size lines (l ∷ ls) = with_lines_size (set lines l.vertex (Some (told_line l))) ls ∙ length-set lines l.vertex (Some (told_line l))

-- vertices above the part are at least `next`
pub above_next : (lines : List (Option Line)) (n : ℕ) (ls : List VertexLine) → IsNext lines n → AreAbove lines ls → All (λ l. n ≤ l.vertex) ls
above_next lines n ls next above = λ i d lt. next.least (get_or ls i d).vertex (λ v s. above v s i d lt)

pub next_above : (lines : List (Option Line)) (n : ℕ) (ls : List VertexLine) → IsNext lines n → All (λ l. n ≤ l.vertex) ls → AreAbove lines ls
next_above lines n ls next all = λ v s i d lt. let a = next.above v s in let b = all i d lt in omega arith

-- ---- lifts

abbrev pub worker_of : LifterValue (List (Option Line)) → List Update → List ℕ → WorkerValue
worker_of l us vs = record { bounds = l.map.bounds; lines = l.lines; map = l.map.measures; kept = us; lifted = vs }

-- lifts between workers with the same updates kept, or others
pub lifts_of : (old new : LifterValue (List (Option Line))) (kept kept' us : List Update) (vs vs' : List ℕ) → KeepsLines old new
    → AreLifts old.map.bounds (part_line old.lines) old.map.measures us new.map.measures
    → Lifts (worker_of old kept vs) (worker_of new kept' vs') us
lifts_of old new kept kept' us vs vs' same lifts = record {
  part = record { bounds = same.bounds; lines = same.lines; size = same.size };
  lifts = lifts;
  under = lifts_stay_under old.map.bounds (part_line old.lines) old.map.measures new.map.measures us lifts;
}
