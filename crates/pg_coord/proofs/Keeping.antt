-- What a link keeps of its session and of the bytes that wait.
use Rattle.std.proofs.Common.{◌≡◌, ◌≢◌, ◌↔◌, ℕ, ◌≤◌, Bool, IsTrue, true, false, List, [], ◌++◌, length, drop, Option, None, ◌⊎◌, refl, sym}
use Rattle.std.proofs.Common.{ap, subst, ◌∙◌, arith, inl, inr}
use Rattle.std.specs.Prelude.{MatchBool}
use Rattle.std.proofs.lemmas.List.{append-nil, length-append, length-drop, drop-append-le}
use Rattle.pg_wire.specs.declared.frame.Frame.{Frame}
use Rattle.pg_wire.specs.declared.frame.Frame.TheVariants as frames
use Rattle.pg_wire.proofs.Bodies.{one_frame}
use Rattle.pg_wire.specs.Spelling.{spelling}
use Rattle.pg_wire.specs.Well.{IsWell}
use Rattle.pg_wire.specs.Bytes.{Spells}
use Rattle.pg_worker.specs.declared.fault.WorkerFault.{WorkerFault}
use Rattle.pg_worker.specs.declared.fault.WorkerFault.TheVariants.{OutOfMemory}
use Rattle.pg_worker.specs.Turns.{SessionValue, Turn, IsUpTo, Refuses, DoesTurn, HasRows, SpellsRows, RefusesBytes}
use Rattle.pg_worker.specs.Serving.{report_bytes}
use Rattle.pg_worker.specs.Above.{AreFrames}
use Rattle.pg_worker.proofs.Framing.{frames_then, frames_less}
use Rattle.pg_worker.proofs.Replies.{Tells}
use Rattle.pg_worker.proofs.Sessions.{turn_small, turn_tells, fault_frames}
use Rattle.pg_coord.specs.Memory.{MemoryValue, still_waiting, Sends, Reports}
use Rattle.pg_coord.specs.Mirrors.Sessions.{IsKept}
use Rattle.pg_coord.proofs.Queues.{first_frame, IsParted, parted}

abbrev pub Any : Frame → Type 0
Any f = Unit {0}

more_frames : (next : ℕ) (bytes more bytes' : List ℕ) → next ≤ length bytes → bytes' ≡ bytes ++ more → AreFrames Any (drop next bytes)
    → AreFrames (Tells (λ m. Unit {0})) more → AreFrames Any (drop next bytes')
more_frames next bytes more bytes' le e a b =
    rw (e, drop-append-le next bytes more le) (frames_then Any (drop next bytes) more a (frames_less (Tells (λ m. Unit {0})) Any more (λ f t. tt) b))

-- the turn of a frame
pub kept_turn : (highest s s' next : ℕ) (held held' : Option SessionValue) (has_refused : Bool) (bytes bytes' reply : List ℕ) (f : Frame)
    → IsKept highest s held has_refused next bytes → s' ≡ s
    → IsWell f → Turn held f held' reply → bytes' ≡ bytes ++ reply → has_refused ≡ false → IsKept highest s' held' has_refused next bytes'
kept_turn highest s s' next held held' has_refused bytes bytes' reply f k same well turn e hears = record {
  highest_is = same ∙ k.highest_is;
  small = turn_small held f held' reply turn (λ s is. subst IsWell is well) k.small;
  empty = λ r. let no : true ≡ false = sym r ∙ hears in absurd cc;
  within = omega (arith, k.within, ap length e, length-append bytes reply);
  frames = more_frames next bytes reply bytes' k.within e k.frames
      (turn_tells (λ m. Unit {0}) held f held' reply turn k.small (λ h budget t b g. λ i d lt. tt));
}

-- the report of a fault
pub kept_report : (highest s next : ℕ) (held : Option SessionValue) (has_refused : Bool) (bytes bytes' : List ℕ) (why : WorkerFault)
    → IsKept highest s held has_refused next bytes
    → bytes' ≡ bytes ++ report_bytes why → IsKept highest s held has_refused next bytes'
kept_report highest s next held has_refused bytes bytes' why k e = record {
  highest_is = k.highest_is;
  small = k.small;
  empty = k.empty;
  within = omega (arith, k.within, ap length e, length-append bytes (report_bytes why));
  frames = more_frames next bytes (report_bytes why) bytes' k.within e k.frames (fault_frames (λ m. Unit {0}) why);
}

pub some_left : (bytes rest : List ℕ) (next n : ℕ) → next ≤ length bytes → next ≢ n → n ≡ length bytes → rest ≡ drop next bytes → 1 ≤ length rest
some_left bytes rest next n le ne len e = omega (arith, length-drop next bytes, ap length e)

-- the first frame that waits, and the others
pub first_waiting : (P : Frame → Type 0) (waiting rest front back : List ℕ) (n : ℕ) → 1 ≤ length rest → rest ≡ waiting → AreFrames P waiting
    → ((f : Frame) (more : List ℕ) → Spells f (spelling f) → rest ≡ spelling f ++ more → n ≡ length (spelling f))
    → length front ≡ n → rest ≡ front ++ back → back ≡ drop n rest → IsParted P front (drop (length front) waiting)
first_waiting P waiting rest front back n some e frames size len parts behind =
    let back_is : back ≡ drop (length front) waiting = behind ∙ ap (drop n) e ∙ ap (λ (k : ℕ). drop k waiting) (sym len) in
    rw (← back_is) (parted P rest front back some (rw e frames) parts (λ f more s p. len ∙ size f more s p))

pub first_within : (P : Frame → Type 0) (bytes : List ℕ) (n : ℕ) → 1 ≤ length bytes → AreFrames P bytes
    → ((f : Frame) (more : List ℕ) → Spells f (spelling f) → bytes ≡ spelling f ++ more → n ≡ length (spelling f)) → n ≤ length bytes
first_within P bytes n some frames size =
    let h = first_frame P bytes some frames in
    omega (arith, size h.f h.rest h.spells h.parts, ap length h.parts, length-append (spelling h.f) h.rest)

-- a turn that is done is a frame that is sent
pub turn_sent : (old new : MemoryValue) (f : Frame) (highest s next : ℕ) (held : Option SessionValue) (has_refused : Bool)
    (bytes bytes' reply : List ℕ)
    → IsKept highest s held has_refused next bytes
    → highest ≡ old.highest → held ≡ old.held → has_refused ≡ old.has_refused → drop next bytes ≡ still_waiting f old.waiting → has_refused ≡ false
    → IsUpTo s f → Turn held f new.held reply → bytes' ≡ bytes ++ reply → new.waiting ≡ drop next bytes' → new.has_refused ≡ has_refused → Sends f old new
turn_sent old new f highest s next held has_refused bytes bytes' reply k highest_is held_is refused_is waiting_is hears version turn e waits refused =
    let listens : old.has_refused ≡ false = sym refused_is ∙ hears in
    rw listens (inl (record {
      reply = reply;
      version = subst (λ (n : ℕ). IsUpTo n f) (k.highest_is ∙ highest_is) version;
      turn = subst (λ (o : Option SessionValue). Turn o f new.held reply) held_is turn;
      waiting = waits ∙ ap (drop next) e ∙ drop-append-le next bytes reply k.within ∙ ap (λ (xs : List ℕ). xs ++ reply) waiting_is;
      refused = refused ∙ hears;
    }))

-- a refusal that is reported is a frame that is sent
pub refusal_sent : (old new : MemoryValue) (f : Frame) (s : ℕ) (held : Option SessionValue) (waits : List ℕ) (why : WorkerFault)
    → old.has_refused ≡ false → s ≡ old.highest → held ≡ old.held → waits ≡ still_waiting f old.waiting
    → (why ≡ OutOfMemory) ⊎ Refuses s held f why → (why ≢ OutOfMemory) × Reports why waits new → Sends f old new
refusal_sent old new f s held waits why hears s_is held_is waits_is (inl e) r = absurd (r.0 e)
refusal_sent old new f s held waits why hears s_is held_is waits_is (inr refuses) r =
    let same : Refuses old.highest old.held f why =
    subst (λ (n : ℕ). Refuses n old.held f why) s_is (subst (λ (o : Option SessionValue). Refuses s o f why) held_is refuses) in
    rw hears (inr (why, same, subst (λ (w : List ℕ). Reports why w new) waits_is r.1))

-- ---- frames of rows

-- rows drop nothing that waits
rows_wait : (f : Frame) (waiting : List ℕ) → HasRows f → waiting ≡ still_waiting f waiting
rows_wait (frames.Vertices v) waiting rows = refl
rows_wait (frames.Values v) waiting rows = refl
rows_wait (frames.Sparse s) waiting rows = refl
rows_wait (frames.Setup s) waiting rows = absurd rows
rows_wait (frames.Go g) waiting rows = absurd rows
rows_wait (frames.Report r) waiting rows = absurd rows
rows_wait frames.Halt waiting rows = absurd rows

-- a session that holds nothing takes none
rows_need : (f : Frame) (held : Option SessionValue) (reply : List ℕ) → HasRows f → Turn None f held reply → ⊥
rows_need (frames.Vertices v) held reply rows t = t
rows_need (frames.Values v) held reply rows t = t
rows_need (frames.Sparse s) held reply rows t = t
rows_need (frames.Setup s) held reply rows t = absurd rows
rows_need (frames.Go g) held reply rows t = absurd rows
rows_need (frames.Report r) held reply rows t = absurd rows
rows_need frames.Halt held reply rows t = absurd rows

-- so it is one that listens
listens : (f : Frame) (held held' : Option SessionValue) (has_refused : Bool) (reply : List ℕ) → (has_refused ≡ true → held ≡ None)
    → HasRows f
    → Turn held f held' reply → has_refused ≡ false
listens f held held' false reply empty rows t = refl
listens f held held' true reply empty rows t = absurd
    (rows_need f held' reply rows (subst (λ (o : Option SessionValue). Turn o f held' reply) (empty refl) t))

has_rows : (bytes : List ℕ) (f : Frame) → SpellsRows bytes → Spells f bytes → HasRows f
has_rows bytes f rows s = subst HasRows (one_frame rows.0 f bytes rows.2 s) rows.1

-- what the session does with bytes that may spell rows
abbrev pub MayTake : Bool → ℕ → Option SessionValue → List ℕ → Option SessionValue → Type 0
MayTake taken highest held bytes held' = MatchBool taken (DoesTurn highest held bytes held' false []) (held' ≡ held)

pub kept_rows : (highest s s' next : ℕ) (held held' : Option SessionValue) (has_refused taken : Bool) (spelled bytes : List ℕ)
    → IsKept highest s held has_refused next bytes → s' ≡ s → (IsTrue taken ↔ SpellsRows spelled) → MayTake taken s held spelled held'
    → IsKept highest s' held' has_refused next bytes
kept_rows highest s s' next held held' has_refused true spelled bytes k same rows does =
    let hears = listens does.frame held held' has_refused [] k.empty (has_rows spelled does.frame (rows.0 refl) does.spells) does.turn in
    kept_turn highest s s' next held held' has_refused bytes bytes [] does.frame k same does.spells.well does.turn (sym (append-nil bytes)) hears
kept_rows highest s s' next held held' has_refused false spelled bytes k same rows e = rw (same, e) k

-- a refusal of rows is one of their frame
pub rows_refused : (old new : MemoryValue) (s : ℕ) (held : Option SessionValue) (spelled waits : List ℕ) (why : WorkerFault)
    → old.has_refused ≡ false → s ≡ old.highest → held ≡ old.held → waits ≡ old.waiting → SpellsRows spelled
    → (why ≡ OutOfMemory) ⊎ RefusesBytes s held spelled why → (why ≢ OutOfMemory) × Reports why waits new
    → (f : Frame) × Spells f spelled × Sends f old new
rows_refused old new s held spelled waits why hears s_is held_is waits_is rows (inl e) r = absurd (r.0 e)
rows_refused old new s held spelled waits why hears s_is held_is waits_is rows (inr (inl none)) r = absurd (none.2.none rows.0 rows.2)
rows_refused old new s held spelled waits why hears s_is held_is waits_is rows (inr (inr refuses)) r =
    let f = refuses.0 in
    let waiting : waits ≡ still_waiting f old.waiting = waits_is ∙ rows_wait f old.waiting (has_rows spelled f rows refuses.1) in
    (f, refuses.1, refusal_sent old new f s held waits why hears s_is held_is waiting (inr refuses.2) r)
