-- Frames of measures of the coordinator's map.
use Rattle.pg_coord_rounds.proofs.Common.{◌≡◌, ℕ, Bool, true, false, ◌+◌, ◌^◌, ◌<◌, ◌≤◌, List, [], ◌∷◌, ◌++◌, length, get_or, refl, sym, ap, ◌∙◌}
use Rattle.pg_coord_rounds.proofs.Common.{subst, arith, All, length-append, All-push, all_pairs_push, MeasureValue, Fits, AtMost, MapValue}
use Rattle.pg_coord_rounds.proofs.Common.{measure_at, MapAtMost, Frame, ValueKind, Dense, Sparse, IsBound, IsWell, ValuesWriter, ValuesReader}
use Rattle.pg_coord_rounds.proofs.Common.{IsLeft, spelling, Spells, IsAdded, Measured, IsMeasured, frame_of, well_of, IsAtLeast, measures_in}
use Rattle.pg_coord_rounds.proofs.Common.{components_fit, frame_tells, IsUnderAfter, AreSent, IsWritten, SpellsMeasures}

-- a link stays under a map that is at least what it was sent
pub under_values : (kind : ValueKind) (width : ℕ) (ms : List Measured) (h : MapValue) (before : Type 0)
    → IsAtLeast h.measures (measures_in (frame_of kind width ms)) → before → IsUnderAfter (frame_of kind width ms) h before
under_values Dense width ms h before least b = (b, least)
under_values Sparse width ms h before least b = (b, least)

-- measures of the map are at most those of a greater one
pub map_at_least : (f h : List MeasureValue) (ms : List Measured) → MapAtMost f h → All (λ m. m.1 ≡ measure_at f m.0) ms → IsAtLeast h ms
map_at_least f h ms le of = λ k d lt. let m = get_or ms k d in subst (λ (n : MeasureValue). AtMost n (measure_at h m.0)) (sym (of k d lt)) (le m.0)

-- ---- one measure more

one_sent : (map : MapValue) (next v : ℕ) (m : MeasureValue) (ms : List Measured) → next ≤ v → v < length map.measures
    → m ≡ measure_at map.measures v → Fits map.bounds m → AreSent map next ms → AreSent map (v + 1) (ms ++ (v, m) ∷ [])
one_sent map next v m ms le lt is fits a = record {
  of_map = All-push (λ n. n.1 ≡ measure_at map.measures n.0) ms (v, m) a.of_map is;
  fits = All-push (λ n. Fits map.bounds n.1) ms (v, m) a.fits fits;
  within = All-push (λ n. n.0 < length map.measures) ms (v, m) a.within lt;
  below = All-push (λ n. n.0 < v + 1) ms (v, m) (λ k d l. let b = a.below k d l in omega arith) (omega arith);
  rising = all_pairs_push (λ x y. x.0 < y.0) ms (v, m) a.rising (λ k d l. let b = a.below k d l in omega arith);
  few = omega (arith, a.few, length-append ms ((v, m) ∷ []));
  bound = omega arith;
}

-- one measure more was written, or the frame is full and as before
pub pushed : (fits : Bool) (map : MapValue) (w w' : ValuesWriter) (next next' v : ℕ) (m : MeasureValue) (ms : List Measured) (buffer buffer' : List ℕ)
    → next ≤ v → v < length map.measures → m ≡ measure_at map.measures v → Fits map.bounds m
    → (fits ≡ true → next' ≡ v + 1) → (fits ≡ false → next' ≡ next) → IsWritten map w next ms buffer
    → IsAdded fits w w' [] ms (v, m) buffer buffer' → (more : List Measured) × IsWritten map w' next' more buffer'
pushed true map w w' next next' v m ms buffer buffer' le lt is fits t f h a =
    (ms ++ (v, m) ∷ [], rw (t refl) record { writing = a; sent = one_sent map next v m ms le lt is fits h.sent })
pushed false map w w' next next' v m ms buffer buffer' le lt is fits t f h a = (ms, rw (f refl, a.1, a.2) record { writing = h.writing; sent = h.sent })

-- the frame is finished
pub frame_spelled : (map : MapValue) (kind : ValueKind) (w : ValuesWriter) (next : ℕ) (ms : List Measured) (buffer out : List ℕ)
    → w.kind ≡ kind → w.width ≡ length map.bounds → length map.bounds ≤ 32768 → All IsBound map.bounds → length map.measures < 2 ^ 32
    → IsWritten map w next ms buffer → out ≡ spelling (frame_of w.kind w.width ms)
    → (IsWell (frame_of w.kind w.width ms) → Spells (frame_of w.kind w.width ms) (spelling (frame_of w.kind w.width ms)))
    → SpellsMeasures kind map out
frame_spelled map kind w next ms buffer out k d few are size h is spells =
    let width = length map.bounds in
    let each : All (IsMeasured width) ms = λ i d l. record {
      vertex = (let within = h.sent.within i d l in omega arith);
      list = components_fit map.bounds (get_or ms i d).1 (h.sent.fits i d l) (λ k b lt. (are k b lt).bound);
    } in
    let same : frame_of w.kind w.width ms ≡ frame_of kind width ms = ap (λ (j : ValueKind). frame_of j w.width ms) k ∙ ap (λ (n : ℕ). frame_of kind n ms) d in
    let well : IsWell (frame_of kind width ms) =
    well_of kind width ms (record {
      within = few;
      countable = (let a = h.sent.few in let b = h.sent.bound in omega arith);
      each = each;
      rising = h.sent.rising;
    }) in
    let spelled : Spells (frame_of kind width ms) (spelling (frame_of kind width ms)) =
    subst (λ (f : Frame). Spells f (spelling f)) same (spells (subst IsWell (sym same) well)) in
    record {
      measures = ms;
      spelled = rw is (subst (λ (f : Frame). Spells (frame_of kind width ms) (spelling f)) (sym same) spelled);
      in_frame = frame_tells kind width ms each;
      of_map = h.sent.of_map;
    }

-- what a reader finds in a frame is what the frame holds
pub found_at_least : (f : List MeasureValue) (r : ValuesReader) (ms : List Measured) → IsLeft r ms
    → IsAtLeast f (measures_in (frame_of r.kind r.width ms)) → IsAtLeast f ms
found_at_least f r ms left h =
    let each : All (IsMeasured r.width) ms = λ i d l. let m = left.measures i d l in record { vertex = m.vertex; list = m.list } in
    subst (IsAtLeast f) (frame_tells r.kind r.width ms each) h
