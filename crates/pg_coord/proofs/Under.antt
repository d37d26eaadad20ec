-- The maps that a link is under, when a frame is sent and when one is received.
use Rattle.std.proofs.Common.{◌⊎◌, ℕ, Bool, true, false, List, Option, subst, arith, inl, inr}
use Rattle.std.specs.Prelude.{IfSome, MatchBool}
use Rattle.pg_map.specs.Maps.{MapValue, measure_at}
use Rattle.pg_measure.specs.Measures.{AtMost}
use Rattle.pg_wire.specs.declared.frame.Frame.{Frame}
use Rattle.pg_wire.specs.declared.frame.Frame.TheVariants as frames
use Rattle.pg_wire.specs.Bytes.{Spells}
use Rattle.pg_wire.proofs.Bodies.{one_frame}
use Rattle.pg_coord_partition.specs.Frames.{IsAtLeast, measures_in}
use Rattle.pg_worker.specs.Turns.{SessionValue, Turn}
use Rattle.pg_worker.specs.Serving.{report_bytes}
use Rattle.pg_worker.specs.Above.{AreFrames, IsAboveSession}
use Rattle.pg_worker.specs.Mirrors.Sessions.{IsSmall}
use Rattle.pg_worker.proofs.Framing.{no_frames, frames_then}
use Rattle.pg_worker.proofs.Sessions.{fresh_above, greeting_frames, turn_above, turn_tells_under, fault_frames}
use Rattle.pg_coord_partition.specs.Links.{IsUnderAfter}
use Rattle.pg_coord.specs.Memory.{MemoryValue, still_waiting, Answers, RefusesFrame, Drops, Sends, IsAboveLink}
use Rattle.pg_coord.proofs.Queues.{IsParted}

abbrev pub AtMostMap : MapValue → Frame → Type 0
AtMostMap h f = IsAtLeast h.measures (measures_in f)

-- ---- the turn of a session: what the link was under before is that its session was

session_above : (B : Type 0) (h : MapValue) (before : Option SessionValue) (f : Frame) (after : Option SessionValue) (reply : List ℕ)
    → Turn before f after reply
    → IsUnderAfter f h B → (B → IfSome before (IsAboveSession h)) → IfSome after (IsAboveSession h)
session_above B h before (frames.Setup s) after reply t u was = rw t.0 (fresh_above h s u.0 u.1)
session_above B h before (frames.Vertices v) after reply t u was =
    turn_above h before (frames.Vertices v) after reply t (λ s e. absurd cc) u.1 (λ i d lt. absurd (omega arith)) (was u.0)
session_above B h before (frames.Values v) after reply t u was =
    turn_above h before (frames.Values v) after reply t (λ s e. absurd cc) (λ i d lt. absurd (omega arith)) u.1 (was u.0)
session_above B h before (frames.Sparse v) after reply t u was =
    turn_above h before (frames.Sparse v) after reply t (λ s e. absurd cc) (λ i d lt. absurd (omega arith)) u.1 (was u.0)
session_above B h before (frames.Go g) after reply t u was =
    turn_above h before (frames.Go g) after reply t (λ s e. absurd cc) (λ i d lt. absurd (omega arith)) (λ i d lt. absurd (omega arith)) (was u)
session_above B h before frames.Halt after reply t u was = absurd u
session_above B h before (frames.Report r) after reply t u was = absurd u

reply_below : (B : Type 0) (h : MapValue) (before : Option SessionValue) (f : Frame) (after : Option SessionValue) (reply : List ℕ)
    → Turn before f after reply
    → IfSome before IsSmall → IsUnderAfter f h B → (B → IfSome before (IsAboveSession h)) → AreFrames (AtMostMap h) reply
reply_below B h before (frames.Setup s) after reply t small u was = rw t.1 (greeting_frames (λ m. AtMost m.1 (measure_at h.measures m.0)) s.version)
reply_below B h before (frames.Vertices v) after reply t small u was = turn_tells_under h before (frames.Vertices v) after reply t small (was u.0)
reply_below B h before (frames.Values v) after reply t small u was = turn_tells_under h before (frames.Values v) after reply t small (was u.0)
reply_below B h before (frames.Sparse v) after reply t small u was = turn_tells_under h before (frames.Sparse v) after reply t small (was u.0)
reply_below B h before (frames.Go g) after reply t small u was = turn_tells_under h before (frames.Go g) after reply t small (was u)
reply_below B h before frames.Halt after reply t small u was = absurd u
reply_below B h before (frames.Report r) after reply t small u was = absurd u

-- ---- the link

still_above : (P : Frame → Type 0) (B : Type 0) (h : MapValue) (f : Frame) (waiting : List ℕ) → IsUnderAfter f h B → (B → AreFrames P waiting)
    → AreFrames P (still_waiting f waiting)
still_above P B h (frames.Setup s) waiting u was = no_frames P
still_above P B h (frames.Vertices v) waiting u was = was u.0
still_above P B h (frames.Values v) waiting u was = was u.0
still_above P B h (frames.Sparse s) waiting u was = was u.0
still_above P B h (frames.Go g) waiting u was = was u
still_above P B h (frames.Report r) waiting u was = absurd u
still_above P B h frames.Halt waiting u was = absurd u

answered : (old new : MemoryValue) (f : Frame) (h : MapValue) → IfSome old.held IsSmall → Answers f old new → IsUnderAfter f h (IsAboveLink old h)
    → IsAboveLink new h
answered old new f h small a u =
    let B : Type 0 = IsAboveLink old h in
    record {
      session = session_above B h old.held f new.held a.reply a.turn u (λ b. b.session);
      waiting = rw a.waiting (frames_then (AtMostMap h) (still_waiting f old.waiting) a.reply (still_above (AtMostMap h) B h f old.waiting u (λ b. b.waiting))
          (reply_below B h old.held f new.held a.reply a.turn small u (λ b. b.session)));
    }

refused : (old new : MemoryValue) (f : Frame) (h : MapValue) → RefusesFrame f old new → IsUnderAfter f h (IsAboveLink old h) → IsAboveLink new h
refused old new f h r u =
    record {
      session = rw r.2.held tt;
      waiting = rw r.2.waiting (frames_then (AtMostMap h) (still_waiting f old.waiting) (report_bytes r.0)
          (still_above (AtMostMap h) (IsAboveLink old h) h f old.waiting u (λ b. b.waiting))
          (fault_frames (λ m. AtMost m.1 (measure_at h.measures m.0)) r.0));
    }

dropped : (old new : MemoryValue) (f : Frame) (h : MapValue) → Drops f old new → IsUnderAfter f h (IsAboveLink old h) → IsAboveLink new h
dropped old new f h d u =
    record {
      session = rw d.held tt;
      waiting = rw d.waiting (still_above (AtMostMap h) (IsAboveLink old h) h f old.waiting u (λ b. b.waiting));
    }

sent_by : (b : Bool) (old new : MemoryValue) (f : Frame) (h : MapValue) → IfSome old.held IsSmall
    → MatchBool b (Drops f old new) (Answers f old new ⊎ RefusesFrame f old new)
    → IsUnderAfter f h (IsAboveLink old h) → IsAboveLink new h
sent_by true old new f h small s u = dropped old new f h s u
sent_by false old new f h small (inl a) u = answered old new f h small a u
sent_by false old new f h small (inr r) u = refused old new f h r u

-- a frame is sent
pub sent_above : (old new : MemoryValue) (f g : Frame) (bytes : List ℕ) (h : MapValue) → IfSome old.held IsSmall → Spells g bytes → Sends g old new
    → Spells f bytes
    → IsUnderAfter f h (IsAboveLink old h) → IsAboveLink new h
sent_above old new f g bytes h small sg sends sf u =
    sent_by old.has_refused old new g h small sends (subst (λ (k : Frame). IsUnderAfter k h (IsAboveLink old h)) (one_frame f g bytes sf sg) u)

-- the bytes that are handed over
pub handed_below : (h : MapValue) (first rest : List ℕ) (f : Frame) → IsParted (AtMostMap h) first rest → Spells f first → IsAtLeast h.measures (measures_in f)
handed_below h first rest f p s = subst (λ (g : Frame). AtMostMap h g) (one_frame p.f f first p.spells s) p.is
