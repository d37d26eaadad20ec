-- Frames of measures, as full as can be.
use Rattle.pg_worker.proofs.Common.{◌≡◌, ℕ, zero, suc, ◌+◌, ◌<◌, ◌≤◌, List, [], ◌∷◌, ◌++◌, length, take, drop, get_or, Bool, true, false}
use Rattle.pg_worker.proofs.Common.{Some, None, inl, inr, refl, sym, ap, ◌∙◌, subst, arith, IfSome, ◌==◌, cases_Bool, flat_map, map-append}
use Rattle.pg_worker.proofs.Common.{length-map, length-append, length-take-le, length-drop, take-append-drop, take-append-le, take_more}
use Rattle.pg_worker.proofs.Common.{drop_more, get_or_default, flat_map-cons, MeasureValue, measure_at, Frame, ValueKind, Dense, Sparse}
use Rattle.pg_worker.proofs.Common.{ValuesWriter, body, spelling, longest, IsWriting, IsAdded, words_size, pairs_size, body_size, Measured}
use Rattle.pg_worker.proofs.Common.{nonzero_from, nonzero, spelled_as, frame_of, frame_size, EndsFull, ArePacked, Packs, measures_of}

pub one_measure_more : (f : List MeasureValue) (vs : List ℕ) (n v : ℕ) → n < length vs → v ≡ get_or vs n 0
    → measures_of f (take n vs) ++ (v, measure_at f v) ∷ [] ≡ measures_of f (take (n + 1) vs)
one_measure_more f vs n v lt e =
    sym (ap (measures_of f) (take_more vs n 0 lt ∙ ap (λ (u : ℕ). take n vs ++ u ∷ []) (sym e)) ∙ map-append (λ u. (u, measure_at f u)) (take n vs) (v ∷ []))

abbrev same_list : List Measured → List Measured
same_list group = group

front_more : (f : List MeasureValue) (vs : List ℕ) (n : ℕ) → n < length vs
    → measures_of f (take n vs) ++ take 1 (measures_of f (drop n vs)) ≡ measures_of f (take (n + 1) vs)
front_more f vs n lt =
    ap (λ (us : List ℕ). measures_of f (take n vs) ++ take 1 (measures_of f us)) (drop_more vs n 0 lt) ∙ one_measure_more f vs n (get_or vs n 0) lt refl

ends_full : (kind : ValueKind) (width : ℕ) (f : List MeasureValue) (vs : List ℕ) (n : ℕ) (groups : List (List Measured))
    → flat_map same_list groups ≡ measures_of f (drop n vs) → ArePacked kind width groups
    → (n < length vs → longest < frame_size kind width (measures_of f (take (n + 1) vs))) → EndsFull kind width (measures_of f (take n vs)) groups
ends_full kind width f vs n [] all packed full = tt
ends_full kind width f vs n (next ∷ more) all packed full =
    let joined : next ++ flat_map same_list more ≡ measures_of f (drop n vs) = sym (flat_map-cons same_list next more) ∙ all in
    let size : length next + length (flat_map same_list more) ≡ length (drop n vs) = sym (length-append next (flat_map same_list more))
    ∙ ap length joined ∙ length-map {B = Measured} (drop n vs) (λ v. (v, measure_at f v)) in
    let lt : n < length vs = omega (arith, packed.0, length-drop n vs) in
    let first : take 1 next ≡ take 1 (measures_of f (drop n vs)) = sym (take-append-le 1 next (flat_map same_list more) packed.0) ∙ ap (take 1) joined in
    let P : List Measured → Type 0 = λ ms. longest < frame_size kind width ms in
    subst P (sym (ap (λ (ms : List Measured). measures_of f (take n vs) ++ ms) first ∙ front_more f vs n lt)) (full lt)

-- a frame of as many measures as fit, and then frames of the others
pub packs_front : (kind : ValueKind) (width : ℕ) (f : List MeasureValue) (vs : List ℕ) (n : ℕ) (more : List ℕ) → 1 ≤ n → n ≤ length vs
    → frame_size kind width (measures_of f (take n vs)) ≤ longest
    → (n < length vs → longest < frame_size kind width (measures_of f (take (n + 1) vs))) → Packs kind width (measures_of f (drop n vs)) more
    → Packs kind width (measures_of f vs) (spelling (frame_of kind width (measures_of f (take n vs))) ++ more)
packs_front kind width f vs n more some le within full p =
    let front = measures_of f (take n vs) in
    record {
      groups = front ∷ p.groups;
      all = flat_map-cons same_list front p.groups ∙ ap (λ (ms : List Measured). front ++ ms) p.all
          ∙ sym (map-append (λ v. (v, measure_at f v)) (take n vs) (drop n vs)) ∙ ap (measures_of f) (take-append-drop n vs);
      packed = (
        omega (arith, length-map {B = Measured} (take n vs) (λ v. (v, measure_at f v)), length-take-le n vs le),
        within,
        ends_full kind width f vs n p.groups p.all p.packed full,
        p.packed,
      );
      spelled = ap (λ (bs : List ℕ). spelling (frame_of kind width front) ++ bs) p.spelled
          ∙ sym (flat_map-cons (λ group. spelling (frame_of kind width group)) front p.groups);
    }

pub packs_none : (kind : ValueKind) (width : ℕ) (f : List MeasureValue) → Packs kind width (measures_of f []) []
packs_none kind width f = record { groups = []; all = refl; packed = tt; spelled = refl }

few_nonzero : (at : ℕ) (xs : List ℕ) → length (nonzero_from at xs) ≤ length xs
few_nonzero at [] = omega arith
few_nonzero at (x ∷ xs) =
    let rest = few_nonzero (at + 1) xs in
    elim (cases_Bool (x == 0)) [
      | inl t ↦ rw t (omega (arith, rest))
      | inr t ↦ rw t (omega (arith, rest))
    ]

measure_size : (kind : ValueKind) (v : ℕ) (m : MeasureValue) → IfSome m (λ xs. length xs ≤ 32768) → length (spelled_as kind (v, m)) ≤ 262153
measure_size Dense v None few = omega arith
measure_size Dense v (Some xs) few = omega (arith, words_size xs)
measure_size Sparse v None few = omega arith
measure_size Sparse v (Some xs) few = omega (arith, pairs_size (nonzero xs), few_nonzero 0 xs)

-- a frame has room for one measure
one_fits : (kind : ValueKind) (width v : ℕ) (m : MeasureValue) → IfSome m (λ xs. length xs ≤ 32768) → frame_size kind width ((v, m) ∷ []) ≤ longest
one_fits kind width v m few =
    omega (
      arith,
      body_size kind width ((v, m) ∷ []),
      measure_size kind v m few,
      ap length (flat_map-cons (spelled_as kind) (v, m) []),
      length-append (spelled_as kind (v, m)) [],
    )

at_least_one : (kind : ValueKind) (width : ℕ) (f : List MeasureValue) (vs : List ℕ) (n v : ℕ) (m : MeasureValue) → n < length vs
    → v ≡ get_or vs n 0 → m ≡ measure_at f v → IfSome m (λ xs. length xs ≤ 32768)
    → longest < frame_size kind width (measures_of f (take (n + 1) vs)) → 1 ≤ n
at_least_one kind width f [] n v m lt at is few full = absurd (omega arith)
at_least_one kind width f (u ∷ vs) zero v m lt at is few full =
    let one : frame_size kind width ((v, m) ∷ []) ≤ longest = one_fits kind width v m few in
    let same : frame_size kind width (measures_of f (take 1 (u ∷ vs))) ≡ frame_size kind width ((v, m) ∷ []) =
    ap (λ (x : ℕ). frame_size kind width ((x, measure_at f x) ∷ [])) (sym at)
    ∙ ap (λ (o : MeasureValue). frame_size kind width ((v, o) ∷ [])) (sym is) in
    absurd (omega (arith, one, same, full))
at_least_one kind width f (u ∷ vs) (suc n) v m lt at is few full = omega arith

-- the frame is full after n of the vertices
pub record IsFull (kind : ValueKind) (width : ℕ) (w : ValuesWriter) (before : List ℕ) (f : List MeasureValue) (vs : List ℕ) (n : ℕ)
    (buffer : List ℕ) : Type 0 where
  pub writing : IsWriting w before (measures_of f (take n vs)) buffer
  pub some : 1 ≤ n
  pub within : frame_size kind width (measures_of f (take n vs)) ≤ longest
  pub full : longest < frame_size kind width (measures_of f (take (n + 1) vs))
  pub spelled : frame_of w.kind w.width (measures_of f (take n vs)) ≡ frame_of kind width (measures_of f (take n vs))

same_frame : (kind k : ValueKind) (width n : ℕ) (ms : List Measured) → k ≡ kind → n ≡ width → frame_of k n ms ≡ frame_of kind width ms
same_frame kind k width n ms e d = ap (λ (j : ValueKind). frame_of j n ms) e ∙ ap (λ (j : ℕ). frame_of kind j ms) d

refused_at : (fits : Bool) (w w' : ValuesWriter) (before : List ℕ) (ms : List Measured) (m : Measured) (buffer buffer' : List ℕ)
    → fits ≡ false → IsWriting w before ms buffer → IsAdded fits w w' before ms m buffer buffer'
    → (longest < frame_size w.kind w.width (ms ++ m ∷ [])) × IsWriting w' before ms buffer'
refused_at true w w' before ms m buffer buffer' e h a = absurd cc
refused_at false w w' before ms m buffer buffer' e h a = (a.0, rw (a.1, a.2) h)

pub stopped : (kind : ValueKind) (width : ℕ) (w w' : ValuesWriter) (before buffer buffer' : List ℕ) (f : List MeasureValue) (vs : List ℕ)
    (n v : ℕ) (m : MeasureValue) (fits : Bool)
    → w.kind ≡ kind → w.width ≡ width → (w'.kind ≡ w.kind) × (w'.width ≡ w.width) → n < length vs → v ≡ get_or vs n v → m ≡ measure_at f v
    → IfSome m (λ xs. length xs ≤ 32768)
    → fits ≡ false → IsWriting w before (measures_of f (take n vs)) buffer
    → IsAdded fits w w' before (measures_of f (take n vs)) (v, m) buffer buffer' → IsFull kind width w' before f vs n buffer'
stopped kind width w w' before buffer buffer' f vs n v m fits k d of lt e is few stop h a =
    let ms = measures_of f (take n vs) in
    let r = refused_at fits w w' before ms (v, m) buffer buffer' stop h a in
    let at : v ≡ get_or vs n 0 = e ∙ get_or_default vs n v 0 lt in
    let one : ms ++ (v, m) ∷ [] ≡ measures_of f (take (n + 1) vs) = ap (λ (o : MeasureValue). ms ++ (v, o) ∷ []) is ∙ one_measure_more f vs n v lt at in
    let same : frame_of w.kind w.width (ms ++ (v, m) ∷ []) ≡ frame_of kind width (measures_of f (take (n + 1) vs)) =
    same_frame kind w.kind width w.width (ms ++ (v, m) ∷ []) k d ∙ ap (frame_of kind width) one in
    let spelled : frame_of w'.kind w'.width ms ≡ frame_of kind width ms = same_frame kind w'.kind width w'.width ms (of.0 ∙ k) (of.1 ∙ d) in
    let full : longest < frame_size kind width (measures_of f (take (n + 1) vs)) = subst (λ (g : Frame). longest < length (body g)) same r.0 in
    record {
      writing = r.1;
      some = at_least_one kind width f vs n v m lt at is few full;
      within = subst (λ (g : Frame). length (body g) ≤ longest) spelled r.1.within;
      full = full;
      spelled = spelled;
    }
