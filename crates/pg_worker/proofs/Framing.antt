-- Bytes that are frames, one after the other.
use Rattle.pg_worker.proofs.Common.{ℕ, List, [], ◌∷◌, ◌++◌, refl, sym, ap, ◌∙◌, arith, flat_map, append-nil, flat_map-cons, All-append}
use Rattle.pg_worker.proofs.Common.{All-cons, flat_map-append, Frame, spelling, Spells, AreFrames}

abbrev pub Whole : (Frame → Type 0) → Frame → Type 0
Whole P f = Spells f (spelling f) × P f

pub no_frames : (P : Frame → Type 0) → AreFrames P []
no_frames P = record { fs = []; spelled = refl; each = λ i d lt. absurd (omega arith) }

pub one_frame : (P : Frame → Type 0) (f : Frame) → Spells f (spelling f) → P f → AreFrames P (spelling f)
one_frame P f s p = record {
  fs = f ∷ [];
  spelled = sym (flat_map-cons spelling f [] ∙ append-nil (spelling f));
  each = All-cons (Whole P) f [] (s, p) (λ i d lt. absurd (omega arith));
}

-- frames behind frames
pub frames_then : (P : Frame → Type 0) (xs ys : List ℕ) → AreFrames P xs → AreFrames P ys → AreFrames P (xs ++ ys)
frames_then P xs ys a b = record {
  fs = a.fs ++ b.fs;
  spelled = ap (λ (zs : List ℕ). zs ++ ys) a.spelled ∙ ap (λ (zs : List ℕ). flat_map spelling a.fs ++ zs) b.spelled ∙ sym (flat_map-append spelling a.fs b.fs);
  each = All-append (Whole P) a.fs b.fs a.each b.each;
}

pub frames_less : (P Q : Frame → Type 0) (bytes : List ℕ) → ((f : Frame) → P f → Q f) → AreFrames P bytes → AreFrames Q bytes
frames_less P Q bytes less a = record {
  fs = a.fs;
  spelled = a.spelled;
  each = λ i d lt. let e = a.each i d lt in (e.0, less _ e.1);
}
