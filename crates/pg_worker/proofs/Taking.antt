-- Measures that are read from a frame and joined, and the turns that they make.
use Rattle.pg_worker.proofs.Common.{◌≡◌, ◌≢◌, ℕ, suc, ◌<◌, ◌≤◌, ◌++◌, length, ◌↔◌, ◌⊎◌, IsTrue, Bool, false, List, [], ◌∷◌, Option, Some}
use Rattle.pg_worker.proofs.Common.{None, Result, Ok, Err, refl, sym, ap, subst, ◌∙◌, append_assoc, inl, inr, arith, All, IfOk, IfErr, OnOk}
use Rattle.pg_worker.proofs.Common.{append-nil, All-push, ValuesReader, ValueKind, Dense, Sparse, WireFault, Frame, body, longest, Spells}
use Rattle.pg_worker.proofs.Common.{IsTooLong, IsTruncated, IsLeft, Measured, IsMeasured, frame_of, one_frame, dense_told, sparse_told}
use Rattle.pg_worker.proofs.Common.{WorkerFault, OutOfMemory, Wire, WorkerValue, CanTake, Takes, SessionValue, CanTakeAll, TakesValues}
use Rattle.pg_worker.proofs.Common.{RefusesValues, Turn, IsUpTo, Refuses, DoesTurn, RefusesBytes, own_fault, JoinsAll, all_none, in_row}
use Rattle.pg_worker.proofs.Common.{first_is, none_left}
use Rattle.pg_wire.specs.declared.frame.Frame.TheVariants as frames
use Rattle.pg_wire.specs.declared.fault.WireFault.TheVariants as wire
use Rattle.pg_wire.specs.Left.{IsNext}
use Rattle.pg_worker.proofs.Joining.{all_joined_none, all_joined_more, can_take_same, can_take_back}

-- of these measures some were joined, and the others are left
pub record Joined (w : WorkerValue) (ms : List Measured) (u : WorkerValue) (r : ValuesReader) : Type 0 where
  pub front : List Measured
  pub back : List Measured
  pub parts : ms ≡ front ++ back
  pub left : IsLeft r back
  pub joins : JoinsAll w front u
  pub fit : CanTakeAll w front

pub joined_none : (w : WorkerValue) (ms : List Measured) (r : ValuesReader) → IsLeft r ms → Joined w ms w r
joined_none w ms r h = record { front = []; back = ms; parts = refl; left = h; joins = all_joined_none w; fit = all_none (λ m. CanTake w m.0 m.1) }

pub joined_more : (w : WorkerValue) (ms : List Measured) (u u' : WorkerValue) (r r' : ValuesReader) (row row' : List ℕ) (n : ℕ) (top rose : Bool)
    → ((back : List Measured) → IsLeft r back → IsNext back r' row row' (Some (n, top)))
    → CanTake u n (in_row top row') → Takes u u' n (in_row top row') rose → Joined w ms u r → Joined w ms u' r'
joined_more w ms u u' r r' row row' n top rose next can takes j =
    let f = first_is j.back r' row row' n top (next j.back j.left) in
    let m : Measured = (n, in_row top row') in
    record {
      front = j.front ++ m ∷ [];
      back = f.rest;
      parts = j.parts ∙ ap (λ (ns : List Measured). j.front ++ ns) f.parts ∙ sym (append_assoc j.front (m ∷ []) f.rest);
      left = f.left;
      joins = all_joined_more w u u' j.front n (in_row top row') rose j.joins can takes;
      fit = All-push (λ (k : Measured). CanTake w k.0 k.1) j.front m j.fit (can_take_back w u j.front n (in_row top row') j.joins can);
    }

pub joined_all : (w : WorkerValue) (ms : List Measured) (u : WorkerValue) (r r' : ValuesReader) (row row' : List ℕ)
    → ((back : List Measured) → IsLeft r back → IsNext back r' row row' None) → Joined w ms u r → JoinsAll w ms u × CanTakeAll w ms
joined_all w ms u r r' row row' next j =
    let none : j.back ≡ [] = none_left j.back r' row row' (next j.back j.left) in
    let all : j.front ≡ ms = sym (j.parts ∙ ap (λ (ns : List Measured). j.front ++ ns) none ∙ append-nil j.front) in
    (subst (λ (ns : List Measured). JoinsAll w ns u) all j.joins, subst (CanTakeAll w) all j.fit)

pub all_mid : {X : Type 0} (P : X → Type 0) (front : List X) (m : X) (rest : List X) → All P (front ++ m ∷ rest) → P m
all_mid P [] m rest h = h 0 m (omega arith)
all_mid P (x ∷ front) m rest h = all_mid P front m rest (λ i d lt. h (suc i) d (omega arith))

pub joined_not : (w : WorkerValue) (ms : List Measured) (u : WorkerValue) (r r' : ValuesReader) (row row' : List ℕ) (n : ℕ) (top : Bool)
    → ((back : List Measured) → IsLeft r back → IsNext back r' row row' (Some (n, top)))
    → (CanTake u n (in_row top row') → ⊥) → Joined w ms u r → CanTakeAll w ms → ⊥
joined_not w ms u r r' row row' n top next refused j all =
    let f = first_is j.back r' row row' n top (next j.back j.left) in
    let m : Measured = (n, in_row top row') in
    let whole : CanTakeAll w (j.front ++ m ∷ f.rest) = subst (CanTakeAll w) (j.parts ∙ ap (λ (ns : List Measured). j.front ++ ns) f.parts) all in
    refused (can_take_same w u j.front n (in_row top row') j.joins (all_mid (λ (k : Measured). CanTake w k.0 k.1) j.front m f.rest whole))

-- ---- turns

turn_measures : (kind : ValueKind) (h : SessionValue) (width : ℕ) (ms : List Measured) (after : Option SessionValue)
    → All (IsMeasured width) ms
    → TakesValues h kind width ms after → Turn (Some h) (frame_of kind width ms) after []
turn_measures Dense h width ms after all t = (subst (λ (ns : List Measured). TakesValues h Dense width ns after) (sym (dense_told ms)) t, refl)
turn_measures Sparse h width ms after all t = (subst (λ (ns : List Measured). TakesValues h Sparse width ns after) (sym (sparse_told width ms all)) t, refl)

refuses_measures : (kind : ValueKind) (highest : ℕ) (h : SessionValue) (width : ℕ) (ms : List Measured) (why : WorkerFault)
    → All (IsMeasured width) ms → RefusesValues h kind width ms why → Refuses highest (Some h) (frame_of kind width ms) why
refuses_measures Dense highest h width ms why all t = subst (λ (ns : List Measured). RefusesValues h Dense width ns why) (sym (dense_told ms)) t
refuses_measures Sparse highest h width ms why all t = subst (λ (ns : List Measured). RefusesValues h Sparse width ns why) (sym (sparse_told width ms all)) t

any_version : (kind : ValueKind) (highest width : ℕ) (ms : List Measured) → IsUpTo highest (frame_of kind width ms)
any_version Dense highest width ms = tt
any_version Sparse highest width ms = tt

no_halt : (kind : ValueKind) (width : ℕ) (ms : List Measured) → IsTrue false ↔ (frame_of kind width ms ≡ frames.Halt)
no_halt Dense width ms = (λ t. absurd cc, λ e. absurd cc)
no_halt Sparse width ms = (λ t. absurd cc, λ e. absurd cc)

-- what `open` finds
abbrev pub Opens : ValuesReader → List ℕ → Type 0
Opens r bytes = (ms : List Measured) × Spells (frame_of r.kind r.width ms) bytes × IsLeft r ms

pub does_turn : (highest : ℕ) (h : SessionValue) (bytes : List ℕ) (r : ValuesReader) (after : Option SessionValue) → (o : Opens r bytes)
    → TakesValues h r.kind r.width o.0 after → DoesTurn highest (Some h) bytes after false []
does_turn highest h bytes r after o t = record {
  frame = frame_of r.kind r.width o.0;
  spells = o.1;
  version = any_version r.kind highest r.width o.0;
  halt = no_halt r.kind r.width o.0;
  turn = turn_measures r.kind h r.width o.0 after o.2.measures t;
}

pub refuses_bytes : (highest : ℕ) (h : SessionValue) (bytes : List ℕ) (r : ValuesReader) (why : WorkerFault) → (o : Opens r bytes)
    → RefusesValues h r.kind r.width o.0 why → RefusesBytes highest (Some h) bytes why
refuses_bytes highest h bytes r why o t = inr (frame_of r.kind r.width o.0, o.1, refuses_measures r.kind highest h r.width o.0 why o.2.measures t)

-- what is said of bytes is said of the frame that they spell, and back
pub frame_turn : (f : Frame) (highest : ℕ) (before : Option SessionValue) (bytes : List ℕ) (after : Option SessionValue) (out out' : List ℕ)
    (r : Result Bool WorkerFault)
    → Spells f bytes
    → IfOk r (λ halts. (reply : List ℕ) × DoesTurn highest before bytes after halts reply × (out' ≡ out ++ reply))
    → OnOk r ((reply : List ℕ) × Turn before f after reply × (out' ≡ out ++ reply))
frame_turn f highest before bytes after out out' (Ok halts) s d =
    (d.0, subst (λ (g : Frame). Turn before g after d.0) (one_frame d.1.frame f bytes d.1.spells s) d.1.turn, d.2)
frame_turn f highest before bytes after out out' (Err e) s d = tt

pub frame_refused : (f : Frame) (highest : ℕ) (before : Option SessionValue) (bytes : List ℕ) (r : Result Bool WorkerFault) → Spells f bytes
    → IfErr r (λ e. (e ≡ OutOfMemory) ⊎ RefusesBytes highest before bytes e) → IfErr r (λ e. (e ≡ OutOfMemory) ⊎ Refuses highest before f e)
frame_refused f highest before bytes (Ok halts) s d = tt
frame_refused f highest before bytes (Err e) s (inl memory) = inl memory
frame_refused f highest before bytes (Err e) s (inr (inl none)) = absurd (none.2.none f s)
frame_refused f highest before bytes (Err e) s (inr (inr k)) = inr (subst (λ (g : Frame). Refuses highest before g e) (one_frame k.0 f bytes k.1 s) k.2)

pub bytes_turn : (f : Frame) (highest : ℕ) (before : Option SessionValue) (bytes : List ℕ) (after : Option SessionValue) (out out' : List ℕ)
    (r : Result Bool WorkerFault)
    → Spells f bytes → OnOk r (IsUpTo highest f)
    → IfOk r (λ halts. IsTrue halts ↔ (f ≡ frames.Halt)) → OnOk r ((reply : List ℕ) × Turn before f after reply × (out' ≡ out ++ reply))
    → IfOk r (λ halts. (reply : List ℕ) × DoesTurn highest before bytes after halts reply × (out' ≡ out ++ reply))
bytes_turn f highest before bytes after out out' (Ok halts) s version halt t =
    (t.0, record { frame = f; spells = s; version = version; halt = halt; turn = t.1 }, t.2)
bytes_turn f highest before bytes after out out' (Err e) s version halt t = tt

pub bytes_refused : (f : Frame) (highest : ℕ) (before : Option SessionValue) (bytes : List ℕ) (r : Result Bool WorkerFault) → Spells f bytes
    → IfErr r (λ e. (e ≡ OutOfMemory) ⊎ Refuses highest before f e) → IfErr r (λ e. (e ≡ OutOfMemory) ⊎ RefusesBytes highest before bytes e)
bytes_refused f highest before bytes (Ok halts) s d = tt
bytes_refused f highest before bytes (Err e) s (inl memory) = inl memory
bytes_refused f highest before bytes (Err e) s (inr k) = inr (inr (f, s, k))

abbrev failed : WireFault → Result Frame WireFault
failed fault = Err fault

fault_is : (x y : WireFault) → failed x ≡ failed y → x ≡ y
fault_is x y e = cc

memory_or : (fault : WireFault) → (fault ≡ wire.OutOfMemory) ⊎ ((fault ≢ wire.OutOfMemory) × (own_fault fault ≡ Wire fault))
memory_or wire.OutOfMemory = inl refl
memory_or wire.TooLong = inr (λ e. absurd cc, refl)
memory_or wire.Truncated = inr (λ e. absurd cc, refl)
memory_or wire.BadKind = inr (λ e. absurd cc, refl)
memory_or (wire.BadField offset) = inr (λ e. absurd cc, refl)
memory_or wire.Read = inr (λ e. absurd cc, refl)
memory_or wire.Write = inr (λ e. absurd cc, refl)
memory_or wire.Version = inr (λ e. absurd cc, refl)

-- what `decode` refuses
pub refuses_none : (highest : ℕ) (held : Option SessionValue) (bytes : List ℕ) (fault : WireFault) (why : WorkerFault)
    → why ≡ own_fault fault
    → ((f : Frame) → Spells f bytes → (failed fault ≡ Ok f) ⊎ (failed fault ≡ failed wire.OutOfMemory))
    → (failed fault ≡ failed wire.TooLong ↔ IsTooLong bytes) → (failed fault ≡ failed wire.Truncated ↔ IsTruncated bytes)
    → (fault ≢ wire.Read) × (fault ≢ wire.Write)
    → (why ≡ OutOfMemory) ⊎ RefusesBytes highest held bytes why
refuses_none highest held bytes fault why is all long short stream =
    elim (memory_or fault) [
      | inl memory ↦ inl (is ∙ ap own_fault memory)
      | inr other ↦ inr (inl (
        fault,
        is ∙ other.1,
        record {
          of_bytes = (other.0, stream.0, stream.1);
          none = λ f s. elim (all f s) [ inl ok ↦ absurd cc | inr memory ↦ other.0 (fault_is fault wire.OutOfMemory memory) ];
          too_long = (λ e. long.0 (ap failed e), λ t. fault_is fault wire.TooLong (long.1 t));
          truncated = (λ e. short.0 (ap failed e), λ t. fault_is fault wire.Truncated (short.1 t));
        },
      ))
    ]

-- what `encode` refuses
pub not_encoded : (f : Frame) (highest : ℕ) (before : Option SessionValue) (fault : WireFault) (why : WorkerFault) → why ≡ own_fault fault
    → (fault ≡ wire.TooLong) ⊎ (fault ≡ wire.OutOfMemory) → (fault ≡ wire.TooLong → longest < length (body f)) → length (body f) ≤ longest
    → (why ≡ OutOfMemory) ⊎ Refuses highest before f why
not_encoded f highest before fault why is (inl long) over within = absurd (let lt = over long in omega arith)
not_encoded f highest before fault why is (inr memory) over within = inl (is ∙ ap own_fault memory)
