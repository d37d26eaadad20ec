-- The lines of a frame of vertices, one after the other.
use Rattle.pg_wire.proofs.Common.{◌≡◌, ℕ, suc, ◌/◌, ◌<◌, List, [], ◌∷◌, ◌++◌, length, Some, None, Ok, Err, Bor, refl, sym, ap, ◌∙◌, arith}
use Rattle.pg_wire.proofs.Common.{append_assoc, append-nil, flat_map, length-append, flat_map-cons, FieldFault, LineHead, VertexLine, VerticesReader, word, line}
use Rattle.pg_wire.proofs.Common.{head_of, line_with, AreLeft, IsNextLine, within_at, all_components, Counted, line_head, counted_as}
use Rattle.pg_wire.proofs.Grammar.{ok_is}
use Rattle.pg_wire.proofs.FrameFormats.{head_is, all_components_is}
use Rattle.pg_wire.proofs.Orders.{pairs_tail}
use Rattle.pg_wire.proofs.Nonzero.{words_size}

abbrev counted_of : VertexLine → Counted
counted_of l = counted_as (head_of l) (length l.successors)

first_read : (r : VerticesReader) (l : VertexLine) (ls : List VertexLine) → AreLeft r (l ∷ ls)
    → (line_head 0).read r.bytes.now ≡ Ok (counted_of l, flat_map word l.successors ++ flat_map line ls)
unfolding line_head
first_read r l ls h =
    let is = h.lines 0 l (omega arith) in
    ap (line_head 0).read (h.spelled ∙ flat_map-cons line l ls) ∙ (head_is 0).reads_back (counted_of l) (flat_map word l.successors ++ flat_map line ls)
    ((omega arith, is.vertex), ((omega arith, omega (arith, is.priority), omega (arith, is.priority)), (omega (arith, is.owner), (is.some, is.countable))))

-- a line that isn't read is none that was left
pub none_left : (ls : List VertexLine) (r : VerticesReader) (row : List ℕ) (e : FieldFault) → AreLeft r ls → (line_head 0).read r.bytes.now ≡ Err e
    → IsNextLine ls r row None
none_left [] r row e h read = (refl, h)
none_left (l ∷ ls) r row e h read = absurd (cc (sym (first_read r l ls h) ∙ read))

none_empty : (r : VerticesReader) (x : Counted × List ℕ) → AreLeft r [] → (line_head 0).read r.bytes.now ≡ Ok x → ⊥
unfolding line_head within_at
none_empty r x h read =
    let e : (line_head 0).read [] ≡ Ok x = ap (line_head 0).read (sym h.spelled) ∙ read in
    absurd (cc e)

same_read : (r : VerticesReader) (l : VertexLine) (ls : List VertexLine) (x : Counted × List ℕ) → AreLeft r (l ∷ ls)
    → (line_head 0).read r.bytes.now ≡ Ok x → x ≡ (counted_of l, flat_map word l.successors ++ flat_map line ls)
same_read r l ls x h read =
    let wanted : Counted × List ℕ = (counted_of l, flat_map word l.successors ++ flat_map line ls) in
    ok_is x wanted (sym read ∙ first_read r l ls h)

-- nor is one whose successors are cut
pub cut_left : (ls : List VertexLine) (r : VerticesReader) (row : List ℕ) (head : LineHead) (count : ℕ) (rest : List ℕ) → AreLeft r ls
    → (line_head 0).read r.bytes.now ≡ Ok (counted_as head count, rest) → length rest / 4 < count → IsNextLine ls r row None
cut_left [] r row head count rest h read few = (refl, h)
cut_left (l ∷ ls) r row head count rest h read few =
    let x : Counted × List ℕ = (counted_as head count, rest) in
    let same = same_read r l ls x h read in
    let n : count ≡ length l.successors = ap (λ (y : Counted × List ℕ). y.0.1.1.1) same in
    let size : length rest ≡ length (flat_map word l.successors ++ flat_map line ls) = ap (λ (y : Counted × List ℕ). length y.1) same in
    absurd (omega (arith, n, size, few, length-append (flat_map word l.successors) (flat_map line ls), words_size l.successors))

pub next_left : (ls : List VertexLine) (r : VerticesReader) (row : List ℕ) (head : LineHead) (count : ℕ) (rest : List ℕ) (after : Bor (List ℕ))
    → AreLeft r ls → (line_head 0).read r.bytes.now ≡ Ok (counted_as head count, rest)
    → (all_components count).read rest ≡ Ok (row, after.now) → IsNextLine ls (record { bytes = after }) row (Some head)
next_left [] r row head count rest after h read numbers = absurd (none_empty r (counted_as head count, rest) h read)
next_left (l ∷ ls) r row head count rest after h read numbers =
    let is = h.lines 0 l (omega arith) in
    let x : Counted × List ℕ = (counted_as head count, rest) in
    let same = same_read r l ls x h read in
    let n : count ≡ length l.successors = ap (λ (y : Counted × List ℕ). y.0.1.1.1) same in
    let whole : rest ≡ flat_map word l.successors ++ flat_map line ls = ap (λ (y : Counted × List ℕ). y.1) same in
    let again : (all_components count).read rest ≡ Ok (l.successors, flat_map line ls) = ap (all_components count).read whole
    ∙ (all_components_is count).reads_back l.successors (flat_map line ls) (record { size = sym n; numbers = is.successors }) in
    let found : List ℕ × List ℕ = (row, after.now) in
    let wanted : List ℕ × List ℕ = (l.successors, flat_map line ls) in
    let parts = ok_is found wanted (sym numbers ∙ again) in (
      ap (λ (y : Counted × List ℕ). Some (record { vertex = y.0.0; priority = y.0.1.0; owner = y.0.1.1.0 })) same,
      ap (λ (y : List ℕ × List ℕ). y.0) parts,
      record {
        lines = λ i d lt. h.lines (suc i) d (omega arith);
        rising = pairs_tail (λ l m. l.vertex < m.vertex) l ls h.rising;
        spelled = ap (λ (y : List ℕ × List ℕ). y.1) parts;
      },
    )

-- ---- all lines

-- these lines were read, and the others are left
abbrev pub Collected : List VertexLine → List VertexLine → VerticesReader → Type 0
Collected all read r = (ls : List VertexLine) × (all ≡ read ++ ls) × AreLeft r ls

pub all_read : (all read ls : List VertexLine) (r : VerticesReader) (row : List ℕ) → IsNextLine ls r row None → all ≡ read ++ ls → all ≡ read
all_read all read [] r row h e = e ∙ append-nil read
all_read all read (l ∷ ls) r row h e = absurd (cc h.0)

pub one_read : (all read ls : List VertexLine) (r : VerticesReader) (row : List ℕ) (head : LineHead) → IsNextLine ls r row (Some head) → all ≡ read ++ ls
    → Collected all (read ++ line_with head row ∷ []) r
one_read all read [] r row head h e = absurd (cc h.0)
one_read all read (l ∷ ls) r row head h e =
    let same : head ≡ head_of l = cc h.0 in
    let line : l ≡ line_with head row = sym (ap (λ (x : LineHead). line_with x row) same ∙ ap (line_with (head_of l)) h.1) in
    (ls, e ∙ ap (λ (x : VertexLine). read ++ x ∷ ls) line ∙ sym (append_assoc read (line_with head row ∷ []) ls), h.2)
