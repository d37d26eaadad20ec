-- Lines that are written into one frame.
use Rattle.pg_coord_rounds.proofs.Common.{◌≡◌, ℕ, Bool, true, false, suc, ◌+◌, ◌*◌, ◌-◌, ◌<◌, ◌≤◌, List, [], ◌∷◌, ◌++◌, length, get_or, Option}
use Rattle.pg_coord_rounds.proofs.Common.{Some, Result, refl, sym, ap, ◌∙◌, subst, arith, All, AllPairs, flat_map, length-append, append-nil}
use Rattle.pg_coord_rounds.proofs.Common.{flat_map-cons, All-push, All-weaker, Contains-get_or, all_pairs_push, GameVertex, IsGame, successors}
use Rattle.pg_coord_rounds.proofs.Common.{vertex_at, Line, vertex_line, game_line, MapValue, IsServed, game_line_at, game_line_some}
use Rattle.pg_coord_rounds.proofs.Common.{served_line_back, VertexLine, VerticesWriter, word, line, body, spelling, longest, Spells, IsVertexLine}
use Rattle.pg_coord_rounds.proofs.Common.{IsVertices, IsWell, frame_with, AreWriting, IsLineAdded, words_size, told_line, IsClosedAt, LinkFault}
use Rattle.pg_coord_rounds.proofs.Common.{SendsTold, TaskValue, IsTask, IsClosedMap, TellsAfter, IsLineOf, AreLines, AreWritten, SpellsLines}
use Rattle.std.proofs.lemmas.Grind.{flat_map-append}

pub line_size : (l : VertexLine) → length (line l) ≡ 13 + 4 * length l.successors
line_size l = omega (arith, words_size l.successors)

few_more : (n low x k : ℕ) → low ≤ x → x < n → k ≤ n - (x + 1) → suc k ≤ n - low
few_more n low x k a b c = omega arith

-- numbers that rise, from one on and below another
rising_few : (xs : List ℕ) (low n : ℕ) → AllPairs (λ v w. v < w) xs → All (λ x. low ≤ x) xs → All (λ x. x < n) xs → length xs ≤ n - low
rising_few [] low n rising from below = omega arith
rising_few (x ∷ xs) low n rising from below =
    few_more n low x (length xs) (from 0 x (omega arith)) (below 0 x (omega arith))
    (rising_few xs (x + 1) n (λ i j d a b. rising (suc i) (suc j) d (omega arith) (omega arith))
    (λ k d lt. let r = rising 0 (suc k) d (omega arith) (omega arith) in omega arith)
    (λ k d lt. below (suc k) d (omega arith)))

pub few_successors : (game : List GameVertex) (l : VertexLine) → IsGame game → length game ≤ 1048576 → IsVertexLine l
    → told_line l ≡ vertex_line (vertex_at game l.vertex) → length l.successors ≤ 1048576
few_successors game l g few well is =
    let same : l.successors ≡ successors game l.vertex = ap (λ (x : Line). x.successors) is in
    let below : All (λ w. w < length game) l.successors = subst (λ (ws : List ℕ). All (λ w. w < length game) ws) (sym same)
    (λ k d lt. g.in_range l.vertex (get_or (successors game l.vertex) k d) (Contains-get_or (successors game l.vertex) k d lt)) in
    let most = rising_few l.successors 0 (length game) well.rising (λ k d lt. omega arith) below in
    omega arith

later : (t : TaskValue) (next more : ℕ) (l : VertexLine) → next ≤ more → IsLineOf t next l → IsLineOf t more l
later t next more l le i = record { vertex = i.vertex; below = (let b = i.below in omega arith); well = i.well; line = i.line }

pub lines_later : (t : TaskValue) (next more : ℕ) (ls : List VertexLine) → next ≤ more → AreLines t next ls → AreLines t more ls
lines_later t next more ls le a =
    record { lines = All-weaker (IsLineOf t next) (IsLineOf t more) (λ l i. later t next more l le i) ls a.lines; rising = a.rising }

pub lines_more : (t : TaskValue) (v : ℕ) (ls : List VertexLine) (l : VertexLine) → l.vertex ≡ v → v < length t.game → IsVertexLine l
    → told_line l ≡ vertex_line (vertex_at t.game v) → AreLines t v ls → AreLines t (v + 1) (ls ++ l ∷ [])
lines_more t v ls l at lt well line_is a =
    let new : IsLineOf t (v + 1) l = record {
      vertex = omega arith;
      below = omega arith;
      well = well;
      line = subst
          (λ (u : ℕ). told_line l ≡ vertex_line (vertex_at t.game u)) (sym at) line_is;
    } in
    let front = lines_later t v (v + 1) ls (omega arith) a in
    record {
      lines = All-push (IsLineOf t (v + 1)) ls l front.lines new;
      rising = all_pairs_push (λ l m. l.vertex < m.vertex) ls l a.rising (λ k d lt. let b = (a.lines k d lt).below in omega arith);
    }

-- ---- a frame that is being written

-- the frame's front, and then the lines
pub written_size : (w : VerticesWriter) (ls : List VertexLine) (buffer : List ℕ) → AreWriting w [] ls buffer → length buffer ≡ 9 + length (flat_map line ls)
written_size w ls buffer h = omega (arith, ap length h.whole, length-append h.front (flat_map line ls), h.front_size)

line_after : (ls : List VertexLine) (l : VertexLine) → length (flat_map line (ls ++ l ∷ [])) ≡ length (flat_map line ls) + (13 + 4 * length l.successors)
line_after ls l =
    ap length (flat_map-append line ls (l ∷ [])) ∙ length-append (flat_map line ls) (flat_map line (l ∷ []))
    ∙ omega (arith, line_size l, ap length (flat_map-cons line l [] ∙ append-nil (line l)))

-- a line more fits where the frame is short
line_fits : (w : VerticesWriter) (ls : List VertexLine) (l : VertexLine) (buffer : List ℕ) → AreWriting w [] ls buffer → length buffer ≤ 8388608
    → length l.successors ≤ 1048576 → length (body (frame_with (ls ++ l ∷ []))) ≤ longest
line_fits w ls l buffer h short few =
    omega (arith, written_size w ls buffer h, line_after ls l, length-append (word (length (ls ++ l ∷ []))) (flat_map line (ls ++ l ∷ [])))

-- the line of a vertex fits, and the frame is one line longer
pub pushed_line : (t : TaskValue) (w w' : VerticesWriter) (v : ℕ) (ls : List VertexLine) (l : VertexLine) (buffer buffer' : List ℕ) (fits : Bool)
    → IsTask t → l.vertex ≡ v → v < length t.game → IsVertexLine l → told_line l ≡ vertex_line (vertex_at t.game v)
    → AreWritten t w v ls buffer → length buffer ≤ 8388608 → IsLineAdded fits w w' [] ls l buffer buffer'
    → (fits ≡ true) × AreWritten t w' (v + 1) (ls ++ l ∷ []) buffer'
pushed_line t w w' v ls l buffer buffer' true task at lt well line_is h short a =
    (refl, record { writing = a; lines = lines_more t v ls l at lt well line_is h.lines })
pushed_line t w w' v ls l buffer buffer' false task at lt well line_is h short a =
    let few = few_successors t.game l task.game task.well.vertices.1 well
    (subst (λ (u : ℕ). told_line l ≡ vertex_line (vertex_at t.game u)) (sym at) line_is) in
    absurd (omega (arith, a.0, line_fits w ls l buffer h.writing short few))

-- ---- the frame is finished

fewer_than_bytes : (ls : List VertexLine) → length ls ≤ length (flat_map line ls)
fewer_than_bytes [] = omega arith
fewer_than_bytes (l ∷ ls) = omega (arith, ap length (flat_map-cons line l ls), length-append (line l) (flat_map line ls), line_size l, fewer_than_bytes ls)

lines_well : (t : TaskValue) (next : ℕ) (ls : List VertexLine) → length (body (frame_with ls)) ≤ longest → AreLines t next ls
    → IsVertices (record { lines = ls })
lines_well t next ls within a = record {
  countable = omega (arith, fewer_than_bytes ls, length-append (word (length ls)) (flat_map line ls), within);
  lines = All-weaker (IsLineOf t next) IsVertexLine (λ l i. i.well) ls a.lines;
  rising = a.rising;
}

pub lines_spelled : (t : TaskValue) (w : VerticesWriter) (next : ℕ) (ls : List VertexLine) (buffer out : List ℕ) → AreWritten t w next ls buffer
    → out ≡ spelling (frame_with ls) → (IsWell (frame_with ls) → Spells (frame_with ls) (spelling (frame_with ls))) → SpellsLines t out
lines_spelled t w next ls buffer out h is spells = record {
  next = next;
  lines = ls;
  spelled = rw is (spells (lines_well t next ls h.writing.within h.lines));
  of_game = h.lines;
}

-- ---- the frame is sent

-- a closed map of the game is closed at each of the lines
closed_at : (t : TaskValue) (h : MapValue) (next : ℕ) (l : VertexLine) → IsClosedMap t h → IsLineOf t next l → IsClosedAt h l
closed_at t h next l closed is =
    let at : IsServed t.bounds (game_line t.game) h.measures l.vertex = closed.closed l.vertex (game_line_some t.game l.vertex is.vertex) in
    rw closed.bounds (served_line_back t.bounds (game_line t.game) (told_line l) h.measures l.vertex (is.line ∙ sym (game_line_at t.game l.vertex)) at)

pub closed_at_all : (t : TaskValue) (h : MapValue) (next : ℕ) (ls : List VertexLine) → IsClosedMap t h → AreLines t next ls → All (IsClosedAt h) ls
closed_at_all t h next ls closed a = All-weaker (IsLineOf t next) (IsClosedAt h) (λ l i. closed_at t h next l closed i) ls a.lines

pub sent_lines : (ls : List VertexLine) (old new : Option (List (List ℕ))) (r : Result (Unit {0}) LinkFault) (left : List (List ℕ))
    → SendsTold (frame_with ls) old new r → old ≡ Some left → TellsAfter left new r
sent_lines ls old new r left h is = subst (λ (o : Option (List (List ℕ))). SendsTold (frame_with ls) o new r) is h
