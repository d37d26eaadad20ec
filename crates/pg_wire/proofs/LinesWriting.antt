-- A frame of vertices that is being written.
use Rattle.pg_wire.proofs.Common.{◌≡◌, ℕ, ◌+◌, ◌*◌, ◌-◌, ◌<◌, ◌≤◌, min, List, [], ◌∷◌, ◌++◌, length, sym, ap, ◌∙◌, append_assoc, arith}
use Rattle.pg_wire.proofs.Common.{flat_map, length-append, VertexLine, VerticesWriter, line, body, longest, frame_with, AreWriting}
use Rattle.pg_wire.proofs.Append.{few, spelled_behind}
use Rattle.pg_wire.proofs.Nonzero.{words_size}

line_size : (l : VertexLine) → length (line l) ≡ 13 + 4 * length l.successors
line_size l = omega (arith, words_size l.successors)

more_size : (ls : List VertexLine) (l : VertexLine) → length (flat_map line (ls ++ l ∷ [])) ≡ length (flat_map line ls) + 13 + 4 * length l.successors
more_size ls l = omega (arith, ap length (spelled_behind line ls l), length-append (flat_map line ls) (line l), line_size l)

frame_size : (w : VerticesWriter) (before : List ℕ) (ls : List VertexLine) (buffer : List ℕ) → AreWriting w before ls buffer
    → length buffer ≡ w.start + 9 + length (flat_map line ls)
frame_size w before ls buffer h =
    omega (arith, ap length h.whole, length-append before (h.front ++ flat_map line ls), length-append h.front (flat_map line ls), h.front_size, h.start)

-- no room is left for one more line
pub no_room : (w : VerticesWriter) (before : List ℕ) (ls : List VertexLine) (buffer : List ℕ) (l : VertexLine) (room size : ℕ)
    → AreWriting w before ls buffer → room ≡ longest + 4 - (length buffer - w.start) → size ≡ 13 + 4 * length l.successors → room < size
    → longest < length (body (frame_with (ls ++ l ∷ [])))
no_room w before ls buffer l room size h r s lt = omega (arith, frame_size w before ls buffer h, more_size ls l, h.within)

-- one more line behind the others
pub added : (start count more : ℕ) (before : List ℕ) (ls : List VertexLine) (buffer buffer' : List ℕ) (l : VertexLine) (room size : ℕ)
    → AreWriting (record { start = start; count = count }) before ls buffer → room ≡ longest + 4 - (length buffer - start)
    → size ≡ 13 + 4 * length l.successors → size ≤ room
    → more ≡ min (count + 1) 4294967295 → buffer' ≡ buffer ++ line l
    → AreWriting (record { start = start; count = more }) before (ls ++ l ∷ []) buffer'
added start count more before ls buffer buffer' l room size h r s le n e =
    let w : VerticesWriter = record { start = start; count = count } in
    let sizes = frame_size w before ls buffer h in
    let counted : length ls ≤ length (flat_map line ls) = few line ls (λ l. tt) in
    record {
      start = h.start;
      count = omega (arith, h.count, h.within, length-append ls (l ∷ []));
      within = omega (arith, more_size ls l, h.within);
      front = h.front;
      front_size = h.front_size;
      whole = e ∙ ap (λ (bs : List ℕ). bs ++ line l) h.whole ∙ append_assoc before (h.front ++ flat_map line ls) (line l)
          ∙ ap (λ (bs : List ℕ). before ++ bs) (append_assoc h.front (flat_map line ls) (line l) ∙ ap (λ (bs : List ℕ). h.front ++ bs) (sym (spelled_behind line ls l)));
    }
