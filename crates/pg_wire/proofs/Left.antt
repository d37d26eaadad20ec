-- The measures that are left, one after the other.
use Rattle.pg_wire.proofs.Common.{◌≡◌, ℕ, suc, ◌^◌, ◌<◌, ◌≤◌, Bool, true, false, not, List, [], ◌∷◌, ◌++◌, map, Option, Some, None, Ok, Err, Bor, refl}
use Rattle.pg_wire.proofs.Common.{sym, ap, ◌∙◌, ◌==◌, arith, append_assoc, append-nil, flat_map, flat_map-cons, ValuesReader, ValueKind, Dense, Sparse}
use Rattle.pg_wire.proofs.Common.{FieldFault, Measured, nonzero, spelled_as, word, IsComponents, within_at, byte_at, both, Reader, measure, some_places}
use Rattle.pg_wire.proofs.Common.{IsLeft, IsListNext, IsNextVertex}
use Rattle.pg_wire.specs.Spelling.{tagged}
use Rattle.pg_wire.proofs.Grammar.{ok_is, head_is}
use Rattle.pg_wire.proofs.FrameFormats.{measure_is, some_places_is, spelt, fits}
use Rattle.pg_wire.proofs.Filling.{places_nonzero}

-- ---- a vertex and its tag

abbrev pub Head : Reader (ℕ × ℕ)
Head = both (within_at 0 (2 ^ 32)) (λ _. byte_at 2)

front : (r : ValuesReader) (m : Measured) (ms : List Measured) → IsLeft r (m ∷ ms)
    → r.bytes.now ≡ (word m.0 ++ tagged (measure r.kind r.width).spelled m.1) ++ flat_map (spelled_as r.kind) ms
front r m ms h = h.spelled ∙ flat_map-cons (spelled_as r.kind) m ms
    ∙ ap (λ (t : List ℕ). t ++ flat_map (spelled_as r.kind) ms) (sym (spelt r.kind r.width m))

top_read : (r : ValuesReader) (v : ℕ) (ms : List Measured) → IsLeft r ((v, None) ∷ ms) → Head r.bytes.now ≡ Ok ((v, 1), flat_map (spelled_as r.kind) ms)
top_read r v ms h = ap Head (front r (v, None) ms h)
    ∙ (head_is 0).reads_back (v, 1) (flat_map (spelled_as r.kind) ms) ((omega arith, (h.measures 0 (v, None) (omega arith)).vertex), omega arith)

list_follows : (r : ValuesReader) (v : ℕ) (list : List ℕ) (ms : List Measured) → IsLeft r ((v, Some list) ∷ ms)
    → Head r.bytes.now ≡ Ok ((v, 0), (measure r.kind r.width).spelled list ++ flat_map (spelled_as r.kind) ms)
list_follows r v list ms h = ap Head (front r (v, Some list) ms h)
    ∙ (head_is 0).reads_back (v, 0) ((measure r.kind r.width).spelled list ++ flat_map (spelled_as r.kind) ms)
    ((omega arith, (h.measures 0 (v, Some list) (omega arith)).vertex), omega arith)

-- a vertex that isn't read is none that was left
pub no_vertex : (ms : List Measured) (r : ValuesReader) (e : FieldFault) → IsLeft r ms → Head r.bytes.now ≡ Err e → IsNextVertex ms r None
no_vertex [] r e h read = (refl, h)
no_vertex ((v, None) ∷ ms) r e h read = absurd (cc (sym (top_read r v ms h) ∙ read))
no_vertex ((v, Some list) ∷ ms) r e h read = absurd (cc (sym (list_follows r v list ms h) ∙ read))

none_empty : (r : ValuesReader) (x : (ℕ × ℕ) × List ℕ) → IsLeft r [] → Head r.bytes.now ≡ Ok x → ⊥
unfolding within_at
none_empty r x h read =
    let e : Head [] ≡ Ok x = ap Head (sym h.spelled) ∙ read in
    absurd (cc e)

pub vertex_read : (ms : List Measured) (r : ValuesReader) (n tag : ℕ) (rest : Bor (List ℕ)) → IsLeft r ms → Head r.bytes.now ≡ Ok ((n, tag), rest.now)
    → IsNextVertex ms (record { kind = r.kind; width = r.width; bytes = rest }) (Some (n, not (tag == 0)))
vertex_read [] r n tag rest h read = absurd (none_empty r ((n, tag), rest.now) h read)
vertex_read ((v, None) ∷ ms) r n tag rest h read =
    let got : (ℕ × ℕ) × List ℕ = ((n, tag), rest.now) in
    let wanted : (ℕ × ℕ) × List ℕ = ((v, 1), flat_map (spelled_as r.kind) ms) in
    let same : got ≡ wanted = ok_is got wanted (sym read ∙ top_read r v ms h) in (
      ap (λ (y : (ℕ × ℕ) × List ℕ). Some (y.0.0, not (y.0.1 == 0))) same,
      record { width = h.width; measures = λ i d lt. h.measures (suc i) d (omega arith); spelled = ap (λ (y : (ℕ × ℕ) × List ℕ). y.1) same },
    )
vertex_read ((v, Some list) ∷ ms) r n tag rest h read =
    let more : List ℕ = (measure r.kind r.width).spelled list ++ flat_map (spelled_as r.kind) ms in
    let got : (ℕ × ℕ) × List ℕ = ((n, tag), rest.now) in
    let wanted : (ℕ × ℕ) × List ℕ = ((v, 0), more) in
    let same : got ≡ wanted = ok_is got wanted (sym read ∙ list_follows r v list ms h) in (
      ap (λ (y : (ℕ × ℕ) × List ℕ). Some (y.0.0, not (y.0.1 == 0))) same,
      record {
        width = h.width;
        components = (h.measures 0 (v, Some list) (omega arith)).list;
        measures = λ i d lt. h.measures (suc i) d (omega arith);
        spelled = ap (λ (y : (ℕ × ℕ) × List ℕ). y.1) same;
      },
    )

-- ---- the list after it

list_read : (r : ValuesReader) (list : List ℕ) (ms : List Measured) → IsListNext r list ms
    → (measure r.kind r.width).read r.bytes.now ≡ Ok (list, flat_map (spelled_as r.kind) ms)
list_read r list ms h =
    let small : r.width < 2 ^ 32 = omega (arith, h.width) in
    ap (measure r.kind r.width).read h.spelled
    ∙ (measure_is r.kind r.width small).reads_back list (flat_map (spelled_as r.kind) ms) ((fits r.kind r.width (Some list)).1 h.components)

pub row_there : (r : ValuesReader) (list : List ℕ) (ms : List Measured) (e : FieldFault) → IsListNext r list ms
    → (measure r.kind r.width).read r.bytes.now ≡ Err e → ⊥
row_there r list ms e h read = absurd (cc (sym (list_read r list ms h) ∙ read))

-- what stays after the list
stays : (r : ValuesReader) (list : List ℕ) (ms : List Measured) (rest : Bor (List ℕ)) → IsListNext r list ms → rest.now ≡ flat_map (spelled_as r.kind) ms
    → IsLeft (record { kind = r.kind; width = r.width; bytes = rest }) ms
stays r list ms rest h e = record { width = h.width; measures = h.measures; spelled = e }

pub row_read : (r : ValuesReader) (row list : List ℕ) (ms : List Measured) (rest : Bor (List ℕ)) → IsListNext r list ms
    → (measure r.kind r.width).read r.bytes.now ≡ Ok (row, rest.now)
    → (row ≡ list) × IsLeft (record { kind = r.kind; width = r.width; bytes = rest }) ms
row_read r row list ms rest h read =
    let got : List ℕ × List ℕ = (row, rest.now) in
    let wanted : List ℕ × List ℕ = (list, flat_map (spelled_as r.kind) ms) in
    let same : got ≡ wanted = ok_is got wanted (sym read ∙ list_read r list ms h) in
    (ap (λ (y : List ℕ × List ℕ). y.0) same, stays r list ms rest h (ap (λ (y : List ℕ × List ℕ). y.1) same))

pairs_there : (kind : ValueKind) (width : ℕ) (bytes list more : List ℕ) → kind ≡ Sparse → width ≤ 32768 → IsComponents width list
    → bytes ≡ (measure kind width).spelled list ++ more → (some_places width).read bytes ≡ Ok (nonzero list, more)
unfolding measure
pairs_there Dense width bytes list more e le h spelled = absurd (cc e)
pairs_there Sparse width bytes list more e le h spelled =
    ap (some_places width).read spelled ∙ (some_places_is width (omega (arith, le))).reads_back (nonzero list) more (places_nonzero width list h)

-- the pairs of a sparse frame's list
pub pairs_known : (r : ValuesReader) (list : List ℕ) (ms : List Measured) → r.kind ≡ Sparse → IsListNext r list ms
    → (some_places r.width).read r.bytes.now ≡ Ok (nonzero list, flat_map (spelled_as r.kind) ms)
pairs_known r list ms e h = pairs_there r.kind r.width r.bytes.now list (flat_map (spelled_as r.kind) ms) e h.width h.components h.spelled

pub pairs_read : (r : ValuesReader) (ps : List (ℕ × ℕ)) (list : List ℕ) (ms : List Measured) (rest : Bor (List ℕ)) → r.kind ≡ Sparse → IsListNext r list ms
    → (some_places r.width).read r.bytes.now ≡ Ok (ps, rest.now)
    → (nonzero list ≡ ps) × IsLeft (record { kind = r.kind; width = r.width; bytes = rest }) ms
pairs_read r ps list ms rest e h read =
    let got : List (ℕ × ℕ) × List ℕ = (ps, rest.now) in
    let wanted : List (ℕ × ℕ) × List ℕ = (nonzero list, flat_map (spelled_as r.kind) ms) in
    let same : got ≡ wanted = ok_is got wanted (sym read ∙ pairs_known r list ms e h) in
    (sym (ap (λ (y : List (ℕ × ℕ) × List ℕ). y.0) same), stays r list ms rest h (ap (λ (y : List (ℕ × ℕ) × List ℕ). y.1) same))

-- ---- the next measure

abbrev answer : ℕ → Bool → Option (ℕ × Bool)
answer n top = Some (n, top)

answer_is : (n v : ℕ) (a b : Bool) → answer n a ≡ answer v b → (n ≡ v) × (a ≡ b)
answer_is n v a b h =
    let got : ℕ × Bool = (n, a) in
    let wanted : ℕ × Bool = (v, b) in
    let same : got ≡ wanted = cc h in
    (ap (λ (x : ℕ × Bool). x.0) same, ap (λ (x : ℕ × Bool). x.1) same)

not_list : (n v : ℕ) → answer n true ≡ answer v false → ⊥
not_list n v h = absurd (cc (answer_is n v true false h).1)

not_top : (n v : ℕ) → answer n false ≡ answer v true → ⊥
not_top n v h = absurd (cc (answer_is n v false true h).1)

-- a list comes after a vertex whose measure isn't top
pub has_list : (ms : List Measured) (r : ValuesReader) (n : ℕ) → IsNextVertex ms r (Some (n, false)) → (list : List ℕ) × (ns : List Measured) × IsListNext r list ns
has_list [] r n h = absurd (cc h.0)
has_list ((v, None) ∷ ms) r n h = absurd (not_top n v h.0)
has_list ((v, Some list) ∷ ms) r n h = (list, ms, h.1)

-- ---- all measures, each made into something

-- these were made of the measures that were read, and those are left
abbrev pub Made : {A : Type 0} → (Measured → A) → List A → List A → ValuesReader → Type 0
Made f all made r = (ms : List Measured) × (all ≡ made ++ map f ms) × IsLeft r ms

pub all_made : {A : Type 0} (f : Measured → A) (all made : List A) (ms : List Measured) (r : ValuesReader) → IsNextVertex ms r None
    → all ≡ made ++ map f ms → all ≡ made
all_made f all made [] r h e = e ∙ append-nil made
all_made f all made ((v, None) ∷ ms) r h e = absurd (cc h.0)
all_made f all made ((v, Some list) ∷ ms) r h e = absurd (cc h.0)

pub top_made : {A : Type 0} (f : Measured → A) (all made : List A) (ms : List Measured) (r : ValuesReader) (n : ℕ) → IsNextVertex ms r (Some (n, true))
    → all ≡ made ++ map f ms → Made f all (made ++ f (n, None) ∷ []) r
top_made f all made [] r n h e = absurd (cc h.0)
top_made {A} f all made ((v, None) ∷ ms) r n h e =
    let same = (answer_is n v true true h.0).0 in
    (ms, e ∙ ap (λ (k : ℕ). made ++ f (k, None) ∷ map f ms) (sym same) ∙ sym (append_assoc made (f (n, None) ∷ []) (map f ms)), h.1)
top_made f all made ((v, Some list) ∷ ms) r n h e = absurd (not_list n v h.0)

pub list_made : {A : Type 0} (f : Measured → A) (all made : List A) (ms : List Measured) (r r' : ValuesReader) (n : ℕ) (x : A)
    → IsNextVertex ms r (Some (n, false))
    → ((list : List ℕ) → (ns : List Measured) → IsListNext r list ns → (f (n, Some list) ≡ x) × IsLeft r' ns)
    → all ≡ made ++ map f ms → Made f all (made ++ x ∷ []) r'
list_made f all made [] r r' n x h read e = absurd (cc h.0)
list_made f all made ((v, None) ∷ ms) r r' n x h read e = absurd (not_top n v h.0)
list_made {A} f all made ((v, Some list) ∷ ms) r r' n x h read e =
    let same = (answer_is n v false false h.0).0 in
    let p = read list ms h.1 in (
      ms,
      e ∙ ap (λ (k : ℕ). made ++ f (k, Some list) ∷ map f ms) (sym same) ∙ ap (λ (y : A). made ++ y ∷ map f ms) p.0
          ∙ sym (append_assoc made (x ∷ []) (map f ms)),
      p.1,
    )
