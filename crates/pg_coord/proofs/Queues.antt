-- The first of the frames that wait.
use Rattle.std.proofs.Common.{◌≡◌, ℕ, ◌≤◌, List, [], ◌∷◌, ◌++◌, length, take, drop, refl, sym, ap, ◌∙◌, arith}
use Rattle.std.specs.Prelude.{All}
use Rattle.std.specs.List.{flat_map}
use Rattle.std.proofs.lemmas.List.{take_at, drop_at}
use Rattle.std.proofs.lemmas.List.Concat.{flat_map-cons}
use Rattle.std.proofs.lemmas.List.Elements.{All-head, All-tail}
use Rattle.pg_wire.specs.declared.frame.Frame.{Frame}
use Rattle.pg_wire.specs.Spelling.{spelling}
use Rattle.pg_wire.specs.Bytes.{Spells}
use Rattle.pg_worker.specs.Above.{AreFrames}
use Rattle.pg_worker.proofs.Framing.{Whole}

-- the first of the frames
pub record HasFirst (P : Frame → Type 0) (bytes : List ℕ) : Type 0 where
  pub f : Frame
  pub rest : List ℕ
  pub spells : Spells f (spelling f)
  pub is : P f
  pub parts : bytes ≡ spelling f ++ rest
  pub others : AreFrames P rest

first_of_list : (P : Frame → Type 0) (bytes : List ℕ) (fs : List Frame) → 1 ≤ length bytes → bytes ≡ flat_map spelling fs → All (Whole P) fs → HasFirst P bytes
first_of_list P bytes [] some e each = absurd (omega (arith, ap length e))
first_of_list P bytes (f ∷ fs) some e each =
    let first = All-head (Whole P) f fs each in
    record {
      f = f;
      rest = flat_map spelling fs;
      spells = first.0;
      is = first.1;
      parts = e ∙ flat_map-cons spelling f fs;
      others = record { fs = fs; spelled = refl; each = All-tail (Whole P) f fs each };
    }

pub first_frame : (P : Frame → Type 0) (bytes : List ℕ) → 1 ≤ length bytes → AreFrames P bytes → HasFirst P bytes
first_frame P bytes some a = first_of_list P bytes a.fs some a.spelled a.each

-- bytes that are as many as the first frame has are that frame
pub record IsParted (P : Frame → Type 0) (first rest : List ℕ) : Type 0 where
  pub f : Frame
  pub spells : Spells f first
  pub is : P f
  pub others : AreFrames P rest

pub parted : (P : Frame → Type 0) (bytes first rest : List ℕ) → 1 ≤ length bytes → AreFrames P bytes → bytes ≡ first ++ rest
    → ((f : Frame) (more : List ℕ) → Spells f (spelling f) → bytes ≡ spelling f ++ more → length first ≡ length (spelling f)) → IsParted P first rest
parted P bytes first rest some a parts size =
    let h = first_frame P bytes some a in
    let len : length first ≡ length (spelling h.f) = size h.f h.rest h.spells h.parts in
    let both : first ++ rest ≡ spelling h.f ++ h.rest = sym parts ∙ h.parts in
    let same : first ≡ spelling h.f =
    sym (take_at first rest (length (spelling h.f)) len) ∙ ap (take (length (spelling h.f))) both
    ∙ take_at (spelling h.f) h.rest (length (spelling h.f)) refl in
    let left : rest ≡ h.rest =
    sym (drop_at first rest (length (spelling h.f)) len) ∙ ap (drop (length (spelling h.f))) both
    ∙ drop_at (spelling h.f) h.rest (length (spelling h.f)) refl in
    record {
      f = h.f;
      spells = rw same h.spells;
      is = h.is;
      others = rw left h.others;
    }
