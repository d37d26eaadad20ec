use Rattle.pg_coord_rounds.proofs.Common.{rules, ◌≡◌, ◌∷◌, ℕ, List, Some, ◌∙◌, Ok, sym, subst, refl, inl, inr, Spells, MapValue, ValuesReader}
use Rattle.pg_coord_rounds.proofs.Common.{IsLeft, Measured, frame_of, IsAtLeast, Joins, measures_in, CoordinatorMap, Moves, Receives}
use Rattle.pg_wire.specs.declared.frame.Frame.TheVariants as frames
use Rattle.pg_coord_rounds.proofs.Taking.{handed_over, found_dense, part_again, frame_joins, part_well}
use Rattle.pg_coord_rounds.proofs.Moving.{receives_none}
use Rattle.pg_coord_rounds.proofs.Measuring.{found_at_least}
use Rattle.pg_coord_rounds.proofs.turn.receive_and_join.Goals as goal
use Rattle.pg_coord_rounds.proofs.turn.receive_and_join.Goals.{After-deref}

-- the measures of a frame are joined, which each map that the link is under is at least
receives_frame : {L : Type 0} (is_honest : L → Type 0) (is_under : L → MapValue → Type 0) (old new : L) (f g : CoordinatorMap)
    (r : ValuesReader) (ms : List Measured) → (is_honest old → is_honest new)
    → (is_honest old → (h : MapValue) → is_under old h → is_under new h) → Moves f g → IsLeft r ms
    → Joins f.map.measures ms g.map.measures
    → (is_honest old → (h : MapValue) → is_under old h → IsAtLeast h.measures (measures_in (frame_of r.kind r.width ms)))
    → Receives is_honest is_under old new f g
receives_frame is_honest is_under old new f g r ms honest under moves left joins values = record {
  honest = honest;
  under = under;
  moves = moves;
  least = λ ho h u le. joins.least h.measures le (found_at_least h.measures r ms left (values ho h u));
}

pub returns-in_err-receive-clause-received : goal.returns-in_err-receive-clause-received
returns-in_err-receive-clause-received g c = receives_none _ _ _ _ _ c.receive.ensures.honest c.receive.ensures.under

pub returns-in_ok-end-in-Ok-clause-received : goal.returns-in_ok-end-in-Ok-clause-received
returns-in_ok-end-in-Ok-clause-received g c = receives_none _ _ _ _ _ c.receive.ensures.honest c.receive.ensures.under

pub returns-in_err-end-in-Ok-clause-received : goal.returns-in_err-end-in-Ok-clause-received
returns-in_err-end-in-Ok-clause-received g c = receives_none _ _ _ _ _ c.receive.ensures.honest c.receive.ensures.under

pub returns-in-Err-OutOfMemory-clause-received : goal.returns-in-Err-OutOfMemory-clause-received
returns-in-Err-OutOfMemory-clause-received g c = receives_none _ _ _ _ _ c.receive.ensures.honest c.receive.ensures.under

pub returns-in-Err-clause-received : goal.returns-in-Err-clause-received
returns-in-Err-clause-received g c = receives_none _ _ _ _ _ c.receive.ensures.honest c.receive.ensures.under

pub returns-then-joined-clause-received : goal.returns-then-joined-clause-received
returns-then-joined-clause-received g c =
    let found = c.in-Some.ensures.found in
    receives_frame _ _ _ _ _ _ c.in-Some.values found.0 c.receive.ensures.honest c.receive.ensures.under c.join_frame-joined.ensures.moves
    found.2 (c.if-joined.ensures.joins found.0 found.2).1
    (λ ho h u. c.in_ok-receive.ensures.values ho h u (frame_of c.in-Some.values.kind c.in-Some.values.width found.0)
    (rw c.deref.ensures.value at found.1))

pub returns-else-joined-clause-received : goal.returns-else-joined-clause-received
returns-else-joined-clause-received g c =
    let found = c.in-Some.ensures.found in
    let same = (c.if-joined.ensures.joins found.0 found.2).1 in
    rw same (receives_none _ _ _ _ _ c.receive.ensures.honest c.receive.ensures.under)

pub join_frame-joined-requires-clause-left : goal.join_frame-joined-requires-clause-left
join_frame-joined-requires-clause-left g c = let found = c.in-Some.ensures.found in (found.0, found.2)

-- the bytes that were received are those of the next frame
handed : (g : _) (c : After-deref g) (next : List ℕ) (left : List (List ℕ)) → g.L.Link.told c.args.link.now ≡ Some (next ∷ left)
    → (c.receive.new.frame.items ≡ next) × (g.L.Link.told c.receive.new.self ≡ Some left)
handed g c next left is = (handed_over (g.L.Link.told c.args.link.now) (g.L.Link.told c.receive.new.self) (Ok c.in_ok-receive.field-0)
    c.receive.new.frame.items next left c.in_ok-receive.ensures.told is).1

pub returns-then-joined-clause-values : goal.returns-then-joined-clause-values
returns-then-joined-clause-values g c = λ v next left is s dense part.
    let values = c.in-Some.values in
    let found = c.in-Some.ensures.found in
    let next_is = handed g (goal.at.returns-then-joined-clause-values g c).After-deref next left is in
    let d = found_dense values.kind values.width found.0 v c.deref.result.now next found.1 (c.deref.ensures.value ∙ next_is.0) s in (
      ((λ no. cc), (refl, next_is.1)),
      frame_joins values.kind values.width found.0 v _ _ d (c.if-joined.ensures.joins found.0 found.2).1,
    )

pub returns-else-joined-clause-values : goal.returns-else-joined-clause-values
returns-else-joined-clause-values g c = λ v next left is s dense part.
    let values = c.in-Some.values in
    let found = c.in-Some.ensures.found in
    let next_is = handed g (goal.at.returns-else-joined-clause-values g c).After-deref next left is in
    let d = found_dense values.kind values.width found.0 v c.deref.result.now next found.1 (c.deref.ensures.value ∙ next_is.0) s in
    let not = (c.if-joined.ensures.joins found.0 found.2).0 in
    absurd (not (part_again c.args.kind values.kind c.args.coordinator.now.map.bounds c.args.task.now.cut c.cut.result.now c.args.worker
    values.width found.0 v d dense c.cut.ensures.value part))

pub returns-then-joined-clause-failing : goal.returns-then-joined-clause-failing
returns-then-joined-clause-failing g c = λ next left is fails dense.
    let values = c.in-Some.values in
    let found = c.in-Some.ensures.found in
    let next_is = handed g (goal.at.returns-then-joined-clause-failing g c).After-deref next left is in
    absurd (part_well c.args.kind values.kind c.args.coordinator.now.map.bounds c.args.task.now.cut c.cut.result.now c.args.worker
    values.width found.0 c.deref.result.now next found.1 (c.deref.ensures.value ∙ next_is.0) dense c.cut.ensures.value
    (c.if-joined.ensures.joins found.0 found.2).0 fails)

pub returns-else-joined-clause-failing : goal.returns-else-joined-clause-failing
returns-else-joined-clause-failing g c = λ next left is fails dense.
    let found = c.in-Some.ensures.found in
    let next_is = handed g (goal.at.returns-else-joined-clause-failing g c).After-deref next left is in
    ((refl, λ e. next_is.1), (c.if-joined.ensures.joins found.0 found.2).1)

pub returns-in-Err-OutOfMemory-clause-failing : goal.returns-in-Err-OutOfMemory-clause-failing
returns-in-Err-OutOfMemory-clause-failing g c = λ next left is fails dense.
    let next_is = handed g (goal.at.returns-in-Err-OutOfMemory-clause-failing g c).After-deref next left is in
    ((refl, λ e. next_is.1), refl)

pub returns-in-Err-clause-failing : goal.returns-in-Err-clause-failing
returns-in-Err-clause-failing g c = λ next left is fails dense.
    let next_is = handed g (goal.at.returns-in-Err-clause-failing g c).After-deref next left is in
    ((refl, λ e. next_is.1), refl)

pub returns-in-Err-clause-values : goal.returns-in-Err-clause-values
returns-in-Err-clause-values g c = λ v next left is s dense part.
    let next_is = handed g (goal.at.returns-in-Err-clause-values g c).After-deref next left is in
    absurd (c.in_default.ensures.all (frames.Values v) tt (subst (Spells (frames.Values v)) (sym (c.deref.ensures.value ∙ next_is.0)) s)
    refl)

pub returns-in-Err-clause-report : goal.returns-in-Err-clause-report
returns-in-Err-clause-report g c = λ r next left is s well.
    let next_is = handed g (goal.at.returns-in-Err-clause-report g c).After-deref next left is in
    elim (c.in-Err.ensures.all (frames.Report r) (subst (Spells (frames.Report r)) (sym (c.deref-2.ensures.value ∙ next_is.0)) s)) [
      | inl e ↦ absurd (cc)
      | inr e ↦ absurd (let bad : ⊥ = search rules in bad)
    ]
