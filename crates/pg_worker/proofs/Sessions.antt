-- What turns keep: sessions stay small, and under the maps that are above what they were told.
use Rattle.pg_worker.proofs.Common.{◌≡◌, ℕ, ◌≤◌, List, [], ◌∷◌, length, set, map, Option, Some, None, refl, sym, ap, subst, ◌∙◌, arith, inl}
use Rattle.pg_worker.proofs.Common.{inr, All, IfSome, IsSome, replicate, unwrap_or, ◌==◌, nowhere, cases_eq, cases_lt, cases_Bool}
use Rattle.pg_worker.proofs.Common.{length-set, length-replicate, get_or-set_same, get_or-set_other, get_or-replicate, get_or_past}
use Rattle.pg_worker.proofs.Common.{All-head, All-tail, BoundList, MeasureValue, AtMost, Covers, zeros, Line, only, vertex_line, MapValue}
use Rattle.pg_worker.proofs.Common.{measure_at, IsMap, IsServed, IsClosed, SomeOrAll, zero_map_least, Setup, VertexLine, Frame, ValueKind}
use Rattle.pg_worker.proofs.Common.{IsSetup, Measured, few_bounds, WorkerFault, told_line, IsAtLeast, lines_in, measures_in, IsClosedAt}
use Rattle.pg_worker.proofs.Common.{part_line, with_lines, SessionValue, fresh, with_part, Turn, TakesValues, LiftsAndTells, greeting}
use Rattle.pg_worker.proofs.Common.{lifted_measures, Replies, report_bytes, AreFrames, IsAboveSession, RepliesStayUnder, IsSmall}
use Rattle.pg_wire.specs.declared.frame.Frame.TheVariants as frames
use Rattle.pg_worker.specs.declared.fault.WorkerFault.TheVariants as faults
use Rattle.pg_wire.specs.declared.fault.WireFault.TheVariants as wire
use Rattle.pg_worker.proofs.Working.{with_lines_size}
use Rattle.pg_worker.proofs.Under.{told_stay_under}
use Rattle.pg_worker.proofs.Framing.{no_frames, frames_then}
use Rattle.pg_worker.proofs.Replies.{Tells, report_frame, go_tells}

-- ---- sessions stay small

fresh_small : (s : Setup) → IsSetup s → IsSmall (fresh s)
fresh_small s w = record {
  vertices = omega (arith, length-replicate {A = Option Line} s.vertices None, w.vertices.1);
  bounds = few_bounds s w;
  words = λ i d lt. (w.bounds.bounds i d lt).bound;
}

taken_small : (h : SessionValue) (kind : ValueKind) (width : ℕ) (ms : List Measured) (after : Option SessionValue)
    → TakesValues h kind width ms after → IsSmall h
    → IfSome after IsSmall
taken_small h kind width ms after t s = rw t.held (record { vertices = s.vertices; bounds = s.bounds; words = s.words })

lifted_small : (h : SessionValue) (budget : ℕ) (after : Option SessionValue) (reply : List ℕ) → LiftsAndTells h budget after reply
    → IsSmall h → IfSome after IsSmall
lifted_small h budget after reply t s =
    let part = t.turn.turn.lifts.part in
    rw t.held (record { vertices = rw part.lines s.vertices; bounds = rw part.bounds s.bounds; words = rw part.bounds s.words })

pub turn_small : (before : Option SessionValue) (f : Frame) (after : Option SessionValue) (reply : List ℕ) → Turn before f after reply
    → ((s : Setup) → f ≡ frames.Setup s → IsSetup s) → IfSome before IsSmall → IfSome after IsSmall
turn_small before (frames.Setup s) after reply t w small = rw t.0 (fresh_small s (w s refl))
turn_small before frames.Halt after reply t w small = rw t.0 tt
turn_small None (frames.Vertices v) after reply t w small = absurd t
turn_small None (frames.Values v) after reply t w small = absurd t
turn_small None (frames.Sparse v) after reply t w small = absurd t
turn_small None (frames.Go g) after reply t w small = absurd t
turn_small None (frames.Report r) after reply t w small = absurd t
turn_small (Some h) (frames.Vertices v) after reply t w small =
    rw t.3 (record { vertices = rw (with_lines_size h.worker.lines v.lines) small.vertices; bounds = small.bounds; words = small.words })
turn_small (Some h) (frames.Values v) after reply t w small = taken_small h _ _ _ after t.0 small
turn_small (Some h) (frames.Sparse v) after reply t w small = taken_small h _ _ _ after t.0 small
turn_small (Some h) (frames.Go g) after reply t w small = lifted_small h g.budget after reply t small
turn_small (Some h) (frames.Report r) after reply t w small = absurd t

-- ---- replies are frames; each measure in them has what each measure of a lifted vertex has

pub greeting_frames : (Q : Measured → Type 0) (version : ℕ) → AreFrames (Tells Q) (greeting version)
greeting_frames Q version =
    elim (cases_Bool (version == 2)) [
      | inl t ↦ rw t (report_frame Q 1 0 (inl (omega arith, refl)))
      | inr t ↦ rw t (no_frames (Tells Q))
    ]

abbrev Lifted : (Measured → Type 0) → Option SessionValue → Frame → Option SessionValue → List ℕ → Type 0
Lifted Q before f after reply =
    (h : SessionValue) (budget : ℕ) (t : LiftsAndTells h budget after reply) → before ≡ Some h
    → f ≡ frames.Go (record { budget = budget }) → All Q (lifted_measures t.worker)

pub turn_tells : (Q : Measured → Type 0) (before : Option SessionValue) (f : Frame) (after : Option SessionValue) (reply : List ℕ)
    → Turn before f after reply
    → IfSome before IsSmall
    → Lifted Q before f after reply → AreFrames (Tells Q) reply
turn_tells Q before (frames.Setup s) after reply t small l = rw t.1 (greeting_frames Q s.version)
turn_tells Q before frames.Halt after reply t small l = rw t.1 (no_frames (Tells Q))
turn_tells Q None (frames.Vertices v) after reply t small l = absurd t
turn_tells Q None (frames.Values v) after reply t small l = absurd t
turn_tells Q None (frames.Sparse v) after reply t small l = absurd t
turn_tells Q None (frames.Go g) after reply t small l = absurd t
turn_tells Q None (frames.Report r) after reply t small l = absurd t
turn_tells Q (Some h) (frames.Vertices v) after reply t small l = rw t.4 (no_frames (Tells Q))
turn_tells Q (Some h) (frames.Values v) after reply t small l = rw t.1 (no_frames (Tells Q))
turn_tells Q (Some h) (frames.Sparse v) after reply t small l = rw t.1 (no_frames (Tells Q))
turn_tells Q (Some h) (frames.Go g) after reply t small l = go_tells Q h g.budget after reply t small (l h g.budget t refl refl)
turn_tells Q (Some h) (frames.Report r) after reply t small l = absurd t

-- ---- the report of a fault

pub fault_frames : (Q : Measured → Type 0) (why : WorkerFault) → AreFrames (Tells Q) (report_bytes why)
fault_frames Q faults.OutOfMemory = report_frame Q 2 1 (inr (refl, inl (omega arith, omega arith)))
fault_frames Q faults.NotMine = report_frame Q 2 2 (inr (refl, inl (omega arith, omega arith)))
fault_frames Q faults.BadUpdate = report_frame Q 2 3 (inr (refl, inl (omega arith, omega arith)))
fault_frames Q faults.Order = report_frame Q 2 4 (inr (refl, inl (omega arith, omega arith)))
fault_frames Q (faults.Wire wire.OutOfMemory) = report_frame Q 2 11 (inr (refl, inr (omega arith, omega arith)))
fault_frames Q (faults.Wire wire.TooLong) = report_frame Q 2 12 (inr (refl, inr (omega arith, omega arith)))
fault_frames Q (faults.Wire wire.Truncated) = no_frames (Tells Q)
fault_frames Q (faults.Wire wire.BadKind) = report_frame Q 2 14 (inr (refl, inr (omega arith, omega arith)))
fault_frames Q (faults.Wire (wire.BadField n)) = report_frame Q 2 15 (inr (refl, inr (omega arith, omega arith)))
fault_frames Q (faults.Wire wire.Read) = no_frames (Tells Q)
fault_frames Q (faults.Wire wire.Write) = no_frames (Tells Q)
fault_frames Q (faults.Wire wire.Version) = report_frame Q 2 18 (inr (refl, inr (omega arith, omega arith)))

-- ---- a map that is above the session stays above it

past_none : (lines : List (Option Line)) (v : ℕ) → length lines ≤ v → IsSome (part_line lines v) → ⊥
past_none lines v le s =
    let none : part_line lines v ≡ None = get_or_past lines v None le in
    subst (λ (o : Option Line). IsSome o → ⊥) (sym none) (λ h. absurd cc) s

no_part : (n v : ℕ) → IsSome (part_line (replicate n None) v) → ⊥
no_part n v s =
    elim (cases_lt v n) [
      | inl lt ↦
          let none : part_line (replicate n None) v ≡ None = get_or-replicate {A = Option Line} n v None None lt in
          subst (λ (o : Option Line). IsSome o → ⊥) (sym none) (λ h. absurd cc) s
      | inr le ↦ past_none (replicate n None) v (omega (arith, length-replicate {A = Option Line} n None)) s
    ]

pub fresh_above : (h : MapValue) (s : Setup) → h.bounds ≡ s.bounds → IsMap s.bounds s.vertices h.measures → IsAboveSession h (fresh s)
fresh_above h s bounds map = record {
  bounds = bounds;
  map = rw (length-replicate {A = MeasureValue} s.vertices (zeros s.bounds)) map;
  closed = λ v some. absurd (no_part s.vertices v some);
  above = zero_map_least s.bounds s.vertices h.measures map;
}

-- the line is served in the map at this vertex
abbrev Serves : BoundList → List MeasureValue → ℕ → Line → Type 0
Serves bs h v l = IsServed bs (only l) h v

served_as : (bs : BoundList) (h : List MeasureValue) (v : ℕ) (a b : ℕ → Option Line) → a v ≡ b v → IsServed bs b h v → IsServed bs a h v
served_as bs h v a b e s =
    let P : Line → Type 0 = λ l. SomeOrAll l.owner (λ w. Covers bs l.priority (measure_at h v) (measure_at h w)) l.successors in
    subst P (sym (ap (λ (o : Option Line). unwrap_or o (vertex_line nowhere)) e)) s

one_line : (bs : BoundList) (h : List MeasureValue) (lines : List (Option Line)) (w : ℕ) (l : Line) → IsClosed bs (part_line lines) h → Serves bs h w l
    → IsClosed bs (part_line (set lines w (Some l))) h
one_line bs h lines w l closed served v some =
    elim (cases_lt v (length lines)) [
      | inr le ↦ absurd (past_none (set lines w (Some l)) v (omega (arith, length-set lines w (Some l))) some)
      | inl lt ↦ elim (cases_eq v w) [
        | inl e ↦
            let here : part_line (set lines w (Some l)) v ≡ Some l =
            subst (λ (u : ℕ). part_line (set lines w (Some l)) u ≡ Some l) (sym e) (get_or-set_same lines w (Some l) None (omega arith)) in
            served_as bs h v (part_line (set lines w (Some l))) (only l) here (subst (λ (u : ℕ). Serves bs h u l) (sym e) served)
        | inr ne ↦
            let there : part_line (set lines w (Some l)) v ≡ part_line lines v = get_or-set_other lines w v (Some l) None ne in
            served_as bs h v (part_line (set lines w (Some l))) (part_line lines) there (closed v (subst (λ (o : Option Line). IsSome o) there some))
      ]
    ]

with_lines_closed : (bs : BoundList) (h : List MeasureValue) (lines : List (Option Line)) (ls : List VertexLine) → IsClosed bs (part_line lines) h
    → All (λ l. Serves bs h l.vertex (told_line l)) ls → IsClosed bs (part_line (with_lines lines ls)) h
with_lines_closed bs h lines [] closed served = closed
with_lines_closed bs h lines (l ∷ ls) closed served =
    let P : VertexLine → Type 0 = λ k. Serves bs h k.vertex (told_line k) in
    with_lines_closed bs h (set lines l.vertex (Some (told_line l))) ls
    (one_line bs h lines l.vertex (told_line l) closed (All-head P l ls served)) (All-tail P l ls served)

part_above : (h : MapValue) (k : SessionValue) (ls : List VertexLine) → IsAboveSession h k → All (IsClosedAt h) ls
    → IsAboveSession h (with_part k ls)
part_above h k ls s closed = record {
  bounds = s.bounds;
  map = s.map;
  closed = with_lines_closed k.worker.bounds h.measures k.worker.lines ls s.closed
      (subst (λ (bs : BoundList). All (λ l. Serves bs h.measures l.vertex (told_line l)) ls) s.bounds closed);
  above = s.above;
}

taken_above : (h : MapValue) (k : SessionValue) (kind : ValueKind) (width : ℕ) (ms : List Measured) (after : Option SessionValue)
    → TakesValues k kind width ms after
    → IsAboveSession h k → IsAtLeast h.measures ms → IfSome after (IsAboveSession h)
taken_above h k kind width ms after t s values =
    rw t.held (record {
      bounds = s.bounds;
      map = rw t.joins.size s.map;
      closed = s.closed;
      above = t.joins.least h.measures s.above values;
    })

lifted_above : (h : MapValue) (k : SessionValue) (budget : ℕ) (after : Option SessionValue) (reply : List ℕ)
    → LiftsAndTells k budget after reply → IsAboveSession h k
    → IfSome after (IsAboveSession h)
lifted_above h k budget after reply t s =
    let part = t.turn.turn.lifts.part in
    rw t.held (record {
      bounds = s.bounds ∙ sym part.bounds;
      map = rw (part.bounds, part.size) s.map;
      closed = rw (part.bounds, part.lines) s.closed;
      above = t.turn.turn.lifts.under h.measures s.map s.closed s.above;
    })

-- no set-up
abbrev Goes : Frame → Type 0
Goes f = (s : Setup) → f ≡ frames.Setup s → ⊥

pub turn_above : (h : MapValue) (before : Option SessionValue) (f : Frame) (after : Option SessionValue) (reply : List ℕ)
    → Turn before f after reply
    → ((s : Setup) → f ≡ frames.Setup s → ⊥) → All (IsClosedAt h) (lines_in f) → IsAtLeast h.measures (measures_in f)
    → IfSome before (IsAboveSession h) → IfSome after (IsAboveSession h)
turn_above h before (frames.Setup s) after reply t goes closed values was = absurd (goes s refl)
turn_above h before frames.Halt after reply t goes closed values was = rw t.0 tt
turn_above h None (frames.Vertices v) after reply t goes closed values was = absurd t
turn_above h None (frames.Values v) after reply t goes closed values was = absurd t
turn_above h None (frames.Sparse v) after reply t goes closed values was = absurd t
turn_above h None (frames.Go g) after reply t goes closed values was = absurd t
turn_above h None (frames.Report r) after reply t goes closed values was = absurd t
turn_above h (Some k) (frames.Vertices v) after reply t goes closed values was = rw t.3 (part_above h k v.lines was closed)
turn_above h (Some k) (frames.Values v) after reply t goes closed values was = taken_above h k _ _ _ after t.0 was values
turn_above h (Some k) (frames.Sparse v) after reply t goes closed values was = taken_above h k _ _ _ after t.0 was values
turn_above h (Some k) (frames.Go g) after reply t goes closed values was = lifted_above h k g.budget after reply t was
turn_above h (Some k) (frames.Report r) after reply t goes closed values was = absurd t

-- ---- what is told is at most a map that is above the session

abbrev Under : MapValue → Measured → Type 0
Under h m = AtMost m.1 (measure_at h.measures m.0)

pub turn_tells_under : (h : MapValue) (before : Option SessionValue) (f : Frame) (after : Option SessionValue) (reply : List ℕ)
    → Turn before f after reply
    → IfSome before IsSmall → IfSome before (IsAboveSession h) → AreFrames (Tells (Under h)) reply
turn_tells_under h before f after reply t small was =
    turn_tells (Under h) before f after reply t small (λ k budget lifts is go.
    let s : IsAboveSession h k = subst (λ (o : Option SessionValue). IfSome o (IsAboveSession h)) is was in
    told_stay_under k budget after reply h.measures lifts s.map s.closed s.above)

replies_under : (h : MapValue) (before : Option SessionValue) (fs : List Frame) (after : Option SessionValue) (replies : List ℕ)
    → Replies before fs after replies
    → All Goes fs → All (λ f. All (IsClosedAt h) (lines_in f)) fs → All (λ f. IsAtLeast h.measures (measures_in f)) fs
    → IfSome before IsSmall → IfSome before (IsAboveSession h) → AreFrames (Tells (Under h)) replies
replies_under h before [] after replies r go closed values small was = rw r.1 (no_frames (Tells (Under h)))
replies_under h before (f ∷ fs) after replies r go closed values small was =
    let goes : Goes f = All-head Goes f fs go in
    let small' = turn_small before f r.0 r.1 r.3 (λ s e. absurd (goes s e)) small in
    let was' = turn_above h before f r.0 r.1 r.3 goes (All-head (λ g. All (IsClosedAt h) (lines_in g)) f fs closed)
    (All-head (λ g. IsAtLeast h.measures (measures_in g)) f fs values) was in
    rw r.5 (frames_then (Tells (Under h)) r.1 r.2 (turn_tells_under h before f r.0 r.1 r.3 small was)
    (replies_under h r.0 fs after r.2 r.4 (All-tail Goes f fs go) (All-tail (λ g. All (IsClosedAt h) (lines_in g)) f fs closed)
    (All-tail (λ g. IsAtLeast h.measures (measures_in g)) f fs values) small' was'))

-- from a set-up on
pub replies_stay_under : RepliesStayUnder
replies_stay_under s fs before after replies h well go r above =
    rw r.5 (frames_then (Tells (Under h)) r.1 r.2 (rw r.3.1 (greeting_frames (Under h) s.version))
    (replies_under h r.0 fs after r.2 r.4 go above.closed above.above (rw r.3.0 (fresh_small s well)) (rw r.3.0 (fresh_above h s above.bounds above.map))))
