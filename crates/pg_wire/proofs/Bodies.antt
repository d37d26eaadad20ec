-- The bytes after a length give a frame exactly if they are its body and it is well.
use Rattle.pg_wire.proofs.Common.{◌≡◌, ℕ, suc, ◌≤◌, cond, List, [], ◌∷◌, ◌++◌, length, take, drop, Result, Ok, Err, refl, sym, ap, subst}
use Rattle.pg_wire.proofs.Common.{◌∙◌, append_assoc, arith, inl, inr, ◌==◌, w32, from_be_bytes, eqb-true, cases_Bool, append-nil, take_at}
use Rattle.pg_wire.proofs.Common.{drop_at, length-append, nil_from_length, from_be_bytes-to_be_bytes_4, FieldFault, At, ReadFault, Frame}
use Rattle.pg_wire.proofs.Common.{word, body, longest, IsWell, Spells, ◌>>=◌, Reader, Fails, made, Format, frame_at, body_at, setup_fields}
use Rattle.pg_wire.proofs.Common.{get_or, ◌^◌, within_at, Setup, vertices_fields, values_fields, sparse_fields, go_fields, report_fields}
use Rattle.pg_wire.specs.declared.fault.ReadFault.TheVariants as faults
use Rattle.pg_wire.specs.declared.frame.Go.{Go}
use Rattle.pg_wire.specs.declared.frame.Report.{Report}
use Rattle.pg_wire.specs.declared.frame.Frame.TheVariants as frames
use Rattle.pg_wire.proofs.Grammar.{IsForm, IsBytes, bind_ok, test_ok, ok_is, nothing_is, number_is}
use Rattle.pg_wire.proofs.FrameFormats.{setup_is, vertices_is, values_fields_is, sparse_fields_is, go_is, report_is}

abbrev end : Frame × List ℕ → Result Frame FieldFault
end f = cond (length f.1 == 0) (Ok f.0) (Err (At (length f.1)))

abbrev IsFound : ℕ → List ℕ → Frame → Type 0
IsFound kind bytes g = ((kind ∷ bytes) ≡ body g) × IsWell g

-- fields that fill the bytes make a frame
filled : {A : Type 0} {f : Format A} (make : A → Frame) (k : ℕ) (bytes : List ℕ) (g : Frame) → IsForm f
    → ((a : A) → body (make a) ≡ k ∷ f.spelled a) → ((a : A) → f.Fits a → IsWell (make a))
    → IsBytes bytes → (made make f.read bytes >>= end) ≡ Ok g → IsFound k bytes g
filled {A} {f} make k bytes g is spelt well h e =
    let p = bind_ok (made make f.read bytes) end g e in
    let q = bind_ok (f.read bytes) (λ a. Ok (make a.0, a.1)) p.0 p.1 in
    let t = is.reads_only bytes q.0 h q.1 in
    let last = test_ok (length p.0.1 == 0) (At (length p.0.1)) p.0.0 g p.2 in
    let made_is : Frame × List ℕ = (make q.0.0, q.0.1) in
    let same : made_is ≡ p.0 = ok_is made_is p.0 q.2 in
    let none : q.0.1 ≡ [] = nil_from_length q.0.1 (ap (λ (y : Frame × List ℕ). length y.1) same ∙ eqb-true _ _ last.0) in
    let whole : bytes ≡ f.spelled q.0.0 = t.0.parts ∙ ap (λ (r : List ℕ). f.spelled q.0.0 ++ r) none ∙ append-nil (f.spelled q.0.0) in
    subst (IsFound k bytes) (ap (λ (y : Frame × List ℕ). y.0) same ∙ last.1) (ap (λ (r : List ℕ). k ∷ r) whole ∙ sym (spelt q.0.0), well q.0.0 t.1)

-- one kind, or another
or_else : (kind k : ℕ) (this that : Reader Frame) (bytes : List ℕ) (g : Frame)
    → ((this bytes >>= end) ≡ Ok g → IsFound k bytes g) → ((that bytes >>= end) ≡ Ok g → IsFound kind bytes g)
    → ((cond (kind == k) this that) bytes >>= end) ≡ Ok g → IsFound kind bytes g
or_else kind k this that bytes g first second e =
    elim (cases_Bool (kind == k)) [
      | inl t ↦ subst (λ (n : ℕ). IsFound n bytes g) (sym (eqb-true _ _ t)) (first (rw t at e))
      | inr t ↦ second (rw t at e)
    ]

frame_found : (kind : ℕ) (bytes : List ℕ) (g : Frame) → IsBytes bytes → (frame_at kind bytes >>= end) ≡ Ok g → IsFound kind bytes g
unfolding frame_at setup_fields vertices_fields values_fields sparse_fields go_fields report_fields
frame_found kind bytes g h =
    or_else kind 1 _ _ bytes g (filled frames.Setup 1 bytes g setup_is (λ a. refl) (λ a w. w) h)
    (or_else kind 2 _ _ bytes g (filled frames.Vertices 2 bytes g vertices_is (λ a. refl) (λ a w. w) h)
    (or_else kind 3 _ _ bytes g (filled frames.Values 3 bytes g values_fields_is (λ a. refl) (λ a w. w) h)
    (or_else kind 4 _ _ bytes g (filled frames.Go 4 bytes g go_is (λ a. refl) (λ a w. w) h)
    (or_else kind 5 _ _ bytes g (filled frames.Report 5 bytes g report_is (λ a. refl) (λ a w. w) h)
    (or_else kind 6 _ _ bytes g (filled (λ _. frames.Halt) 6 bytes g nothing_is (λ a. refl) (λ a w. w) h)
    (or_else kind 7 _ _ bytes g (filled frames.Sparse 7 bytes g sparse_fields_is (λ a. refl) (λ a w. w) h) (λ e. absurd cc)))))))

pub body_found : (bytes : List ℕ) (f : Frame) → IsBytes bytes → body_at bytes ≡ Ok f → (bytes ≡ body f) × IsWell f
unfolding body_at
body_found [] f h e = absurd cc
body_found (kind ∷ bytes) f h e = frame_found kind bytes f (λ i. h (suc i)) e

fields_read_back : {A : Type 0} {f : Format A} (make : A → Frame) (a : A) → IsForm f → f.Fits a → (made make f.read (f.spelled a) >>= end) ≡ Ok (make a)
fields_read_back {A} {f} make a is h =
    let r : f.read (f.spelled a) ≡ Ok (a, []) = ap f.read (sym (append-nil (f.spelled a))) ∙ is.reads_back a [] h in
    rw r refl

pub body_reads_back : (f : Frame) → IsWell f → body_at (body f) ≡ Ok f
unfolding body_at frame_at setup_fields vertices_fields values_fields sparse_fields go_fields report_fields
body_reads_back (frames.Setup s) h = fields_read_back frames.Setup s setup_is h
body_reads_back (frames.Vertices v) h = fields_read_back frames.Vertices v vertices_is h
body_reads_back (frames.Values v) h = fields_read_back frames.Values v values_fields_is h
body_reads_back (frames.Go g) h = fields_read_back frames.Go g go_is h
body_reads_back (frames.Report r) h = fields_read_back frames.Report r report_is h
body_reads_back frames.Halt h = refl
body_reads_back (frames.Sparse s) h = fields_read_back frames.Sparse s sparse_fields_is h

-- ---- whole frames

-- the number at the front of a spelling is the length of the body
pub length_is : (f : Frame) → length (body f) ≤ longest → from_be_bytes w32 (word (length (body f))) ≡ length (body f)
length_is f within = from_be_bytes-to_be_bytes_4 (length (body f)) (omega arith)

-- what is spelled is a length, and as many bytes
pub record IsSplit (front rest : List ℕ) (f : Frame) : Type 0 where
  pub size : from_be_bytes w32 front ≡ length rest
  pub within : length rest ≤ longest
  pub whole : rest ≡ body f

pub spelling_split : (bytes front rest : List ℕ) (f : Frame) → bytes ≡ front ++ rest → length front ≡ 4 → Spells f bytes → IsSplit front rest f
spelling_split bytes front rest f e len s =
    let joined : front ++ rest ≡ word (length (body f)) ++ body f = sym e ∙ s.spelled in
    let first : front ≡ word (length (body f)) = sym (take_at front rest 4 len) ∙ ap (take 4) joined ∙ take_at (word (length (body f))) (body f) 4 refl in
    let second : rest ≡ body f = sym (drop_at front rest 4 len) ∙ ap (drop 4) joined ∙ drop_at (word (length (body f))) (body f) 4 refl in
    record {
      size = ap (from_be_bytes w32) first ∙ length_is f s.within ∙ ap length (sym second);
      within = subst (λ (k : ℕ). k ≤ longest) (ap length (sym second)) s.within;
      whole = second;
    }

-- ---- laws

pub same_body : (f g : Frame) → IsWell f → IsWell g → body f ≡ body g → f ≡ g
same_body f g p q same = ok_is f g (sym (body_reads_back f p) ∙ ap body_at same ∙ body_reads_back g q)

pub no_front : (f g : Frame) (front more : List ℕ) → Spells f front → Spells g (front ++ more) → more ≡ []
no_front f g front more p q =
    let joined = ap (λ (t : List ℕ). t ++ more) p.spelled ∙ append_assoc (word (length (body f))) (body f) more in
    let split = spelling_split (front ++ more) (word (length (body f))) (body f ++ more) g joined refl q in
    nil_from_length more (omega (arith, length_is f p.within, split.size, length-append (body f) more))

pub one_frame : (f g : Frame) (bytes : List ℕ) → Spells f bytes → Spells g bytes → f ≡ g
one_frame f g bytes p q =
    let split = spelling_split bytes (word (length (body g))) (body g) f q.spelled refl p in
    same_body f g p.well q.well (sym split.whole)

-- what is read fails only if memory runs out
pub fails_known : {Y Z : Type 0} (e : ReadFault) (r : Result Y FieldFault) (y : Y) (z : Z) → r ≡ Ok y → Fails e r → Fails {Y = Z} e (Ok z)
fails_known faults.Memory r y z known h = tt
fails_known (faults.Field f) r y z known h = absurd (cc (sym known ∙ h))

-- ---- the frame of a body that is known

other_kind : (k : ℕ) (f : Frame) (bytes : List ℕ) → (k ∷ bytes) ≡ body f → k ≡ get_or (body f) 0 0
other_kind k f bytes e = ap (λ (bs : List ℕ). get_or bs 0 0) e

known_fields : {A : Type 0} {f : Format A} (k : ℕ) (a : A) (bytes : List ℕ) → IsForm f → f.Fits a → (k ∷ bytes) ≡ k ∷ f.spelled a → f.read bytes ≡ Ok (a, [])
known_fields {A} {f} k a bytes is h e =
    ap f.read (ap (drop 1) e ∙ sym (append-nil (f.spelled a))) ∙ is.reads_back a [] h

pub setup_known : (f : Frame) (bytes : List ℕ) → IsWell f → (1 ∷ bytes) ≡ body f
    → (s : Setup) × (setup_fields.read bytes ≡ Ok (s, [])) × (frames.Setup s ≡ f)
unfolding setup_fields
setup_known (frames.Setup s) bytes h e = (s, known_fields 1 s bytes setup_is h e, refl)
setup_known f bytes h e = absurd (omega (arith, other_kind 1 f bytes e))

pub go_known : (f : Frame) (bytes : List ℕ) → IsWell f → (4 ∷ bytes) ≡ body f
    → (g : Go) × (within_at 0 (2 ^ 32) bytes ≡ Ok (g.budget, [])) × (frames.Go g ≡ f)
go_known (frames.Go g) bytes h e = (g, known_fields 4 g.budget bytes (number_is 0) (omega arith, h) e, refl)
go_known f bytes h e = absurd (omega (arith, other_kind 4 f bytes e))

pub report_known : (f : Frame) (bytes : List ℕ) → IsWell f → (5 ∷ bytes) ≡ body f
    → (r : Report) × (report_fields.read bytes ≡ Ok (r, [])) × (frames.Report r ≡ f)
unfolding report_fields
report_known (frames.Report r) bytes h e = (r, known_fields 5 r bytes report_is h e, refl)
report_known f bytes h e = absurd (omega (arith, other_kind 5 f bytes e))

pub halt_known : (f : Frame) (bytes : List ℕ) → (6 ∷ bytes) ≡ body f → frames.Halt ≡ f
halt_known frames.Halt bytes e = refl
halt_known f bytes e = absurd (omega (arith, other_kind 6 f bytes e))

-- bytes that a reader refused are the body of no well frame
pub refused : (e : ReadFault) (x : FieldFault) (bytes : List ℕ) (f : Frame) → e ≡ faults.Field x → Fails e (body_at bytes) → IsWell f → bytes ≡ body f → ⊥
refused faults.Memory x bytes f is h well b = absurd cc
refused (faults.Field y) x bytes f is h well b =
    let ok : body_at bytes ≡ Ok f = ap body_at b ∙ body_reads_back f well in
    absurd (cc (sym h ∙ ok))
