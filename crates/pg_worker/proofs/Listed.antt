-- The vertices that a turn lifted.
use Rattle.pg_worker.proofs.Common.{◌≡◌, ℕ, ◌<◌, List, [], ◌∷◌, length, get_or, Bool, true, false, cond, Option, refl, subst, arith, All}
use Rattle.pg_worker.proofs.Common.{IsSome, All-cons, bool_byte, BoundList, MeasureValue, Line, Update, WorkerValue, part_line, IsWorker}
use Rattle.pg_worker.proofs.Common.{AreLifts, IsListedTurn}

all_mine : (bounds : BoundList) (lines : ℕ → Option Line) (f : List MeasureValue) (us : List Update) (g : List MeasureValue)
    → AreLifts bounds lines f us g → All (λ u. IsSome (lines u.vertex)) us
all_mine bounds lines f [] g h = λ i d lt. absurd (omega arith)
all_mine bounds lines f (u ∷ us) g h = All-cons (λ u. IsSome (lines u.vertex)) u us h.1.mine (all_mine bounds lines h.0 us g h.2)

pub lifted_within : (w w' : WorkerValue) (budget : ℕ) (quiet : Bool) → IsListedTurn w w' budget quiet → IsWorker w' → All (λ v. v < length w'.map) w'.lifted
lifted_within w w' budget quiet t whole = λ i d lt.
    let some = t.lifted.only i d lt in
    let mine : IsSome (part_line w.lines some.1.vertex) = subst (λ (u : Update). IsSome (part_line w.lines u.vertex)) some.3
    (all_mine w.bounds (part_line w.lines) w.map t.updates w'.map t.turn.lifts.lifts some.0 some.1 some.2) in
    let same : IsSome (part_line w'.lines (get_or w'.lifted i d)) = subst (λ (v : ℕ). IsSome (part_line w'.lines v)) some.4 (rw t.turn.lifts.part.lines mine) in
    whole.within.numbers (get_or w'.lifted i d) same

-- the status of a report
pub status_is : (quiet : Bool) → bool_byte quiet ≡ cond quiet 1 0
status_is true = refl
status_is false = refl
