-- A frame of measures that is being written.
use Rattle.pg_wire.proofs.Common.{◌≡◌, ℕ, ◌+◌, ◌-◌, ◌<◌, ◌≤◌, min, List, [], ◌∷◌, ◌++◌, length, take, drop, None, refl, sym, ap, ◌∙◌}
use Rattle.pg_wire.proofs.Common.{append_assoc, arith, flat_map, length-append, length-map, take_at, drop_at, flat_map-map, ValueKind}
use Rattle.pg_wire.proofs.Common.{Dense, Sparse, ValuesWriter, word, value, sparse_value, body, spelling, longest, HasBytes, Measured}
use Rattle.pg_wire.proofs.Common.{dense_value, sparse_form, spelled_as, kind_number, frame_of, IsWriting}
use borrow.Rule.Slice.PartMut.{post_of}
use Rattle.pg_wire.proofs.Append.{few, spelled_behind}

-- what is spelled behind the width and the count
abbrev pub fields : ValueKind → List Measured → List ℕ
fields kind ms = flat_map (spelled_as kind) ms

pub body_size : (kind : ValueKind) (width : ℕ) (ms : List Measured) → length (body (frame_of kind width ms)) ≡ 9 + length (fields kind ms)
body_size Dense width ms = omega (arith, ap length (flat_map-map value dense_value ms))
body_size Sparse width ms = omega (arith, ap length (flat_map-map sparse_value sparse_form ms))

more_size : (kind : ValueKind) (width : ℕ) (ms : List Measured) (m : Measured)
    → length (body (frame_of kind width (ms ++ m ∷ []))) ≡ 9 + length (fields kind ms) + length (spelled_as kind m)
more_size kind width ms m = body_size kind width (ms ++ m ∷ []) ∙ omega (
  arith,
  ap length (spelled_behind (spelled_as kind) ms m),
  length-append (fields kind ms) (spelled_as kind m),
)

pub top_is : (kind : ValueKind) (vertex : ℕ) → spelled_as kind (vertex, None) ≡ word vertex ++ 1 ∷ []
top_is Dense vertex = refl
top_is Sparse vertex = refl

some_bytes : (kind : ValueKind) (m : Measured) → HasBytes (spelled_as kind m)
some_bytes Dense m = tt
some_bytes Sparse m = tt

frame_size : (w : ValuesWriter) (before : List ℕ) (ms : List Measured) (buffer : List ℕ) → IsWriting w before ms buffer
    → length buffer ≡ w.start + 13 + length (fields w.kind ms)
frame_size w before ms buffer h =
    omega (arith, ap length h.whole, length-append before (h.front ++ fields w.kind ms), length-append h.front (fields w.kind ms), h.front_size, h.start)

-- no room is left for one more measure
pub no_room : (w : ValuesWriter) (before : List ℕ) (ms : List Measured) (buffer : List ℕ) (m : Measured) (room size : ℕ)
    → IsWriting w before ms buffer → room ≡ longest + 4 - (length buffer - w.start) → size ≡ length (spelled_as w.kind m) → room < size
    → longest < length (body (frame_of w.kind w.width (ms ++ m ∷ [])))
no_room w before ms buffer m room size h r s lt =
    omega (arith, frame_size w before ms buffer h, more_size w.kind w.width ms m, body_size w.kind w.width ms, h.within)

-- one more measure behind the others
pub added : (kind : ValueKind) (width start count more : ℕ) (before : List ℕ) (ms : List Measured) (buffer buffer' : List ℕ) (m : Measured) (room size : ℕ)
    → IsWriting (record { kind = kind; width = width; start = start; count = count }) before ms buffer
    → room ≡ longest + 4 - (length buffer - start) → size ≡ length (spelled_as kind m) → size ≤ room
    → more ≡ min (count + 1) 4294967295 → buffer' ≡ buffer ++ spelled_as kind m
    → IsWriting (record { kind = kind; width = width; start = start; count = more }) before (ms ++ m ∷ []) buffer'
added kind width start count more before ms buffer buffer' m room size h r s le n e =
    let w : ValuesWriter = record { kind = kind; width = width; start = start; count = count } in
    let sizes = frame_size w before ms buffer h in
    let len = body_size kind width ms in
    let counted : length ms ≤ length (fields kind ms) = few (spelled_as kind) ms (some_bytes kind) in
    record {
      start = h.start;
      count = omega (arith, h.count, h.within, length-append ms (m ∷ []));
      within = omega (arith, more_size kind width ms m, h.within);
      front = h.front;
      front_size = h.front_size;
      whole = e ∙ ap (λ (bs : List ℕ). bs ++ spelled_as kind m) h.whole ∙ append_assoc before (h.front ++ fields kind ms) (spelled_as kind m)
          ∙ ap (λ (bs : List ℕ). before ++ bs) (append_assoc h.front (fields kind ms) (spelled_as kind m) ∙ ap
          (λ (bs : List ℕ). h.front ++ bs) (sym (spelled_behind (spelled_as kind) ms m)));
    }

-- the front of a frame, and its fields
front_spells : (kind : ValueKind) (width : ℕ) (ms : List Measured)
    → (word (length (body (frame_of kind width ms))) ++ (kind_number kind ∷ (word width ++ word (length ms)))) ++ fields kind ms ≡ spelling
    (frame_of kind width ms)
front_spells Dense width ms = rw (flat_map-map value dense_value ms, length-map ms dense_value) refl
front_spells Sparse width ms = rw (flat_map-map sparse_value sparse_form ms, length-map ms sparse_form) refl

-- the thirteen bytes behind what was there before were written anew
pub front_written : (s items before front front' rest : List ℕ) (start n k : ℕ) → s ≡ items → items ≡ before ++ (front ++ rest)
    → start ≡ length before → length front ≡ 13 → length front' ≡ 13 → n ≡ length items → k ≡ 13
    → take n ((take start s ++ (front' ++ post_of start k s)) ++ drop
    (length (take start s ++ (front' ++ post_of start k s))) items) ≡ before ++ (front' ++ rest)
front_written s items before front front' rest start n k e parts at size size' len thirteen =
    let whole : s ≡ before ++ (front ++ rest) = e ∙ parts in
    let first : take start s ≡ before = ap (take start) whole ∙ take_at before (front ++ rest) start (sym at) in
    let second : drop start s ≡ front ++ rest = ap (drop start) whole ∙ drop_at before (front ++ rest) start (sym at) in
    let last : post_of start k s ≡ rest = ap (drop k) second ∙ drop_at front rest k (size ∙ sym thirteen) in
    let all : take start s ++ (front' ++ post_of start k s) ≡ before ++ (front' ++ rest) = rw (first, last) refl in
    let same : length (before ++ (front' ++ rest)) ≡ n = omega (
      arith,
      ap length parts,
      length-append before (front ++ rest),
      length-append front rest,
      length-append before (front' ++ rest),
      length-append front' rest,
    ) in
    rw all (take_at (before ++ (front' ++ rest)) (drop (length (before ++ (front' ++ rest))) items) n same)

pub finished : (w : ValuesWriter) (before : List ℕ) (ms : List Measured) (buffer front' : List ℕ) (len : ℕ) → IsWriting w before ms buffer
    → len ≡ min (length buffer - w.start - 4) longest → front' ≡ word len ++ (kind_number w.kind ∷ (word w.width ++ word w.count))
    → before ++ (front' ++ fields w.kind ms) ≡ before ++ spelling (frame_of w.kind w.width ms)
finished w before ms buffer front' len h n e =
    let size : len ≡ length (body (frame_of w.kind w.width ms)) = omega (arith, frame_size w before ms buffer h, body_size w.kind w.width ms, h.within) in
    let front_is : front' ≡ word (length (body (frame_of w.kind w.width ms))) ++ (kind_number w.kind ∷ (word w.width ++ word (length ms))) =
    e ∙ ap (λ (n : ℕ). word n ++ (kind_number w.kind ∷ (word w.width ++ word w.count))) size
    ∙ ap (λ (n : ℕ). word (length (body (frame_of w.kind w.width ms))) ++ (kind_number w.kind ∷ (word w.width ++ word n))) h.count in
    ap (λ (bs : List ℕ). before ++ bs) (ap (λ (bs : List ℕ). bs ++ fields w.kind ms) front_is ∙ front_spells w.kind w.width ms)
