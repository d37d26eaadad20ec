-- The replies of a session are well frames, and tell the measures of the vertices that were lifted.
use Rattle.pg_worker.proofs.Common.{◌≡◌, ℕ, zero, suc, ◌<◌, ◌≤◌, Bool, true, false, List, [], ◌∷◌, ◌++◌, length, get_or, Option, None, refl}
use Rattle.pg_worker.proofs.Common.{sym, ap, subst, ◌∙◌, arith, inl, inr, All, AllPairs, IsSome, if◌then◌else◌, flat_map, cases_eq}
use Rattle.pg_worker.proofs.Common.{cases_lt, get_or-set_other, get_or_past, flat_map-cons, All-map, BoundList, MeasureValue, Fits, Line}
use Rattle.pg_worker.proofs.Common.{measure_at, IsLifted, Update, ValueKind, Dense, Sparse, Frame, spelling, longest, IsWord, IsWell}
use Rattle.pg_worker.proofs.Common.{Measured, spelled_as, frame_of, IsMeasured, well_of, few, fields, body_size, HasBytes, components_fit}
use Rattle.pg_worker.proofs.Common.{frame_tells, part_line, AreLifts, SessionValue, LiftsAndTells, ArePacked, lifted_measures, report}
use Rattle.pg_worker.proofs.Common.{frame_size, measures_in, AreFrames, IsSmall, pairs_map, all_left, all_right, pairs_left, pairs_right}
use Rattle.pg_wire.specs.declared.frame.Frame.TheVariants as frames
use Rattle.pg_worker.proofs.Framing.{no_frames, one_frame, frames_then}

-- ---- the measures of vertices that were lifted fit

fits_on : (bs : BoundList) (lines : ℕ → Option Line) (f g : List MeasureValue) (w v : ℕ) → IsLifted bs lines f g w → Fits bs (measure_at f v)
    → Fits bs (measure_at g v)
fits_on bs lines f g w v i fits =
    elim (cases_eq v w) [
      | inl e ↦ subst (λ (u : ℕ). Fits bs (measure_at g u)) (sym e) i.least.fits
      | inr ne ↦ subst (Fits bs) (sym (ap (λ (h : List MeasureValue). measure_at h v) i.others ∙ get_or-set_other f w v (measure_at g w) None ne)) fits
    ]

fits_through : (bs : BoundList) (lines : ℕ → Option Line) (f g : List MeasureValue) (us : List Update) (v : ℕ) → AreLifts bs lines f us g
    → Fits bs (measure_at f v) → Fits bs (measure_at g v)
fits_through bs lines f g [] v e fits = subst (λ (h : List MeasureValue). Fits bs (measure_at h v)) (sym e) fits
fits_through bs lines f g (u ∷ us) v r fits = fits_through bs lines r.0 g us v r.2 (fits_on bs lines f r.0 u.vertex v r.1.lifted fits)

record IsGood (bs : BoundList) (lines : ℕ → Option Line) (g : List MeasureValue) (v : ℕ) : Type 0 where
  mine : IsSome (lines v)
  fits : Fits bs (measure_at g v)

lifted_fits : (bs : BoundList) (lines : ℕ → Option Line) (f g : List MeasureValue) (us : List Update) (k : ℕ) (x : Update) → AreLifts bs lines f us g
    → k < length us → get_or us k x ≡ x → IsGood bs lines g x.vertex
lifted_fits bs lines f g [] k x r lt at = absurd (omega arith)
lifted_fits bs lines f g (u ∷ us) zero x r lt at =
    subst (λ (y : Update). IsGood bs lines g y.vertex) at (record {
      mine = r.1.mine;
      fits = fits_through bs lines r.0 g us u.vertex r.2 r.1.lifted.least.fits;
    })
lifted_fits bs lines f g (u ∷ us) (suc k) x r lt at = lifted_fits bs lines r.0 g us k x r.2 (omega arith) at

-- ---- so they can be told

part_within : (lines : List (Option Line)) (v : ℕ) → IsSome (part_line lines v) → v < length lines
part_within lines v s =
    elim (cases_lt v (length lines)) [
      | inl lt ↦ lt
      | inr le ↦
          let none : part_line lines v ≡ None = get_or_past lines v None le in
          absurd (subst (λ (o : Option Line). IsSome o → ⊥) (sym none) (λ h. cc) s)
    ]

pub lifted_told : (h : SessionValue) (budget : ℕ) (after : Option SessionValue) (reply : List ℕ) (t : LiftsAndTells h budget after reply)
    → IsSmall h
    → All (IsMeasured (length h.worker.bounds)) (lifted_measures t.worker)
lifted_told h budget after reply t small =
    let w = t.worker in
    let bs = h.worker.bounds in
    All-map (IsMeasured (length bs)) (λ v. (v, measure_at w.map v)) w.lifted (λ i d lt.
    let a = t.turn.lifted.only i d lt in
    let v = get_or w.lifted i d in
    let good : IsGood bs (part_line h.worker.lines) w.map a.1.vertex =
    lifted_fits bs (part_line h.worker.lines) h.worker.map w.map t.turn.updates a.0 a.1 t.turn.turn.lifts.lifts a.2 a.3 in
    let at : IsGood bs (part_line h.worker.lines) w.map v = subst (IsGood bs (part_line h.worker.lines) w.map) a.4 good in
    let lt' : v < length h.worker.lines = part_within h.worker.lines v at.mine in
    record {
      vertex = omega (arith, lt', small.vertices);
      list = components_fit bs (measure_at w.map v) at.fits small.words;
    })

-- ---- frames of them

has_bytes : (kind : ValueKind) (m : Measured) → HasBytes (spelled_as kind m)
has_bytes Dense m = tt
has_bytes Sparse m = tt

abbrev pub Tells : (Measured → Type 0) → Frame → Type 0
Tells Q f = All Q (measures_in f)

one_group : (Q : Measured → Type 0) (kind : ValueKind) (width : ℕ) (ms : List Measured) → width ≤ 32768 → frame_size kind width ms ≤ longest
    → All (IsMeasured width) ms → AllPairs (λ m n. m.0 < n.0) ms → All Q ms → AreFrames (Tells Q) (spelling (frame_of kind width ms))
one_group Q kind width ms narrow within told rising holds =
    let count : length ms ≤ length (fields kind ms) = few (spelled_as kind) ms (has_bytes kind) in
    let word : IsWord (length ms) = omega (arith, count, body_size kind width ms, within) in
    one_frame (Tells Q) (frame_of kind width ms)
    (record {
      well = well_of kind width ms (record { within = narrow; countable = word; each = told; rising = rising });
      within = within;
      spelled = refl;
    })
    (rw (frame_tells kind width ms told) holds)

abbrev same_list : List Measured → List Measured
same_list group = group

groups_tell : (Q : Measured → Type 0) (kind : ValueKind) (width : ℕ) (groups : List (List Measured)) (ms : List Measured) → flat_map same_list groups ≡ ms
    → ArePacked kind width groups → width ≤ 32768
    → All (IsMeasured width) ms → AllPairs (λ m n. m.0 < n.0) ms → All Q ms
    → AreFrames (Tells Q) (flat_map (λ group. spelling (frame_of kind width group)) groups)
groups_tell Q kind width [] ms e packed narrow told rising holds = no_frames (Tells Q)
groups_tell Q kind width (g ∷ gs) ms e packed narrow told rising holds =
    let rest = flat_map same_list gs in
    let parts : ms ≡ g ++ rest = sym e ∙ flat_map-cons same_list g gs in
    let R : Measured → Measured → Type 0 = λ m n. m.0 < n.0 in
    let told' : All (IsMeasured width) (g ++ rest) = subst (All (IsMeasured width)) parts told in
    let rising' : AllPairs R (g ++ rest) = subst (AllPairs R) parts rising in
    let holds' : All Q (g ++ rest) = subst (All Q) parts holds in
    rw (flat_map-cons (λ group. spelling (frame_of kind width group)) g gs)
    (frames_then (Tells Q) (spelling (frame_of kind width g)) (flat_map (λ group. spelling (frame_of kind width group)) gs)
    (one_group Q kind width g narrow packed.1 (all_left (IsMeasured width) g rest told') (pairs_left R g rest rising') (all_left Q g rest holds'))
    (groups_tell Q kind width gs rest refl packed.3 narrow (all_right (IsMeasured width) g rest told') (pairs_right R g rest rising')
    (all_right Q g rest holds')))

-- ---- reports

pub report_frame : (Q : Measured → Type 0) (status code : ℕ) → IsWell (frames.Report (record { status = status; code = code }))
    → AreFrames (Tells Q) (report status code)
report_frame Q status code well =
    one_frame (Tells Q) (frames.Report (record { status = status; code = code }))
    (record { well = well; within = omega arith; spelled = refl }) (λ i d lt. absurd (omega arith))

quiet_report : (Q : Measured → Type 0) (quiet : Bool) → AreFrames (Tells Q) (report (if quiet then 1 else 0) 0)
quiet_report Q true = report_frame Q 1 0 (inl (omega arith, refl))
quiet_report Q false = report_frame Q 0 0 (inl (omega arith, refl))

-- ---- replies

pub go_tells : (Q : Measured → Type 0) (h : SessionValue) (budget : ℕ) (after : Option SessionValue) (reply : List ℕ)
    (t : LiftsAndTells h budget after reply)
    → IsSmall h
    → All Q (lifted_measures t.worker) → AreFrames (Tells Q) reply
go_tells Q h budget after reply t small holds =
    let w = t.worker in
    let width : length w.bounds ≡ length h.worker.bounds = ap length t.turn.turn.lifts.part.bounds in
    let told : All (IsMeasured (length w.bounds)) (lifted_measures w) =
    subst (λ (n : ℕ). All (IsMeasured n) (lifted_measures w)) (sym width) (lifted_told h budget after reply t small) in
    let rising : AllPairs (λ m n. m.0 < n.0) (lifted_measures w) =
    pairs_map (λ (m n : Measured). m.0 < n.0) (λ v. (v, measure_at w.map v)) w.lifted t.turn.lifted.rising in
    let values : AreFrames (Tells Q) t.measures =
    rw t.packs.spelled (groups_tell Q h.kind (length w.bounds) t.packs.groups (lifted_measures w) t.packs.all
    t.packs.packed (omega (arith, small.bounds)) told rising holds) in
    rw t.reply_is (frames_then (Tells Q) t.measures (report (if t.quiet then 1 else 0) 0) values (quiet_report Q t.quiet))
