-- Lines that are read from a frame and added to a part, and the turns that they make.
use Rattle.pg_worker.proofs.Common.{◌≡◌, ◌∙◌, ℕ, zero, suc, ◌<◌, ◌++◌, ◌⊎◌, List, [], ◌∷◌, Option, Some, None, length, set, refl, sym, ap}
use Rattle.pg_worker.proofs.Common.{subst, append_assoc, inl, inr, arith, All, AllPairs, IsSome, cases_eq, get_or-set_other, All-cons}
use Rattle.pg_worker.proofs.Common.{All-append, All-push, LineHead, VertexLine, VerticesReader, IsVertexLine, head_of, line_with, AreLeft}
use Rattle.pg_worker.proofs.Common.{IsNextLine, Line, WorkerFault, OutOfMemory, NotMine, BadUpdate, Order, Wire, told_line, WorkerValue}
use Rattle.pg_worker.proofs.Common.{part_line, with_lines, AreAbove, FitsGame, RefusesLines, some_is}
use Rattle.pg_worker.proofs.Working.{with_lines_more}
use Rattle.pg_worker.proofs.Taking.{all_mid}

-- the worker with these lines too
abbrev pub adding : WorkerValue → List VertexLine → WorkerValue
adding w ls = record w { lines = with_lines w.lines ls }

abbrev Rise : List VertexLine → Type 0
Rise ls = AllPairs (λ l m. l.vertex < m.vertex) ls

abbrev Fit : WorkerValue → List VertexLine → Type 0
Fit w ls = All (FitsGame w.bounds (length w.map)) ls

-- of these lines some were added, and the others are left
pub record Added (w : WorkerValue) (ls : List VertexLine) (u : WorkerValue) (r : VerticesReader) : Type 0 where
  pub front : List VertexLine
  pub back : List VertexLine
  pub parts : ls ≡ front ++ back
  pub left : AreLeft r back
  pub added : u ≡ adding w front
  pub above : AreAbove w.lines front
  pub fit : Fit w front

-- ---- the line that was read

-- it is the first of those that were left
pub record FirstLine (back : List VertexLine) (r : VerticesReader) (l : VertexLine) : Type 0 where
  pub rest : List VertexLine
  pub parts : back ≡ l ∷ rest
  pub left : AreLeft r rest

first_line : (back : List VertexLine) (r : VerticesReader) (row : List ℕ) (head : LineHead) → IsNextLine back r row (Some head)
    → FirstLine back r (line_with head row)
first_line [] r row head h = absurd cc
first_line (l ∷ ls) r row head h =
    let told : head ≡ head_of l = some_is head (head_of l) h.0 in
    record { rest = ls; parts = sym (ap (λ (k : LineHead). line_with k row ∷ ls) told ∙ ap (λ (ns : List ℕ). line_with (head_of l) ns ∷ ls) h.1); left = h.2 }

-- reading answers so, whatever lines are left
abbrev pub Reads : VerticesReader → VerticesReader → List ℕ → Option LineHead → Type 0
Reads r r' row answer = (back : List VertexLine) → AreLeft r back → IsNextLine back r' row answer

pub is_line : (w : WorkerValue) (ls : List VertexLine) (u : WorkerValue) (r r' : VerticesReader) (row : List ℕ) (head : LineHead)
    → Reads r r' row (Some head) → Added w ls u r → IsVertexLine (line_with head row)
is_line w ls u r r' row head next j =
    let f = first_line j.back r' row head (next j.back j.left) in
    let all : All IsVertexLine (line_with head row ∷ f.rest) = subst (λ (ks : List VertexLine). All IsVertexLine ks) f.parts j.left.lines in
    all 0 (line_with head row) (omega arith)

-- ---- lines that rise

later : (x : VertexLine) (xs : List VertexLine) → Rise (x ∷ xs) → Rise xs
later x xs h = λ i j d lt less. h (suc i) (suc j) d (omega arith) (omega arith)

after_first : (x : VertexLine) (xs : List VertexLine) → Rise (x ∷ xs) → All (λ k. x.vertex < k.vertex) xs
after_first x xs h = λ i d lt. h 0 (suc i) d (omega arith) (omega arith)

front_below : (front : List VertexLine) (l : VertexLine) (rest : List VertexLine) → Rise (front ++ l ∷ rest) → All (λ k. k.vertex < l.vertex) front
front_below [] l rest h = λ i d lt. absurd (omega arith)
front_below (x ∷ xs) l rest h =
    All-cons (λ (k : VertexLine). k.vertex < l.vertex) x xs
    (all_mid (λ (k : VertexLine). x.vertex < k.vertex) xs l rest (after_first x (xs ++ l ∷ rest) h))
    (front_below xs l rest (later x (xs ++ l ∷ rest) h))

rest_above : (front : List VertexLine) (l : VertexLine) (rest : List VertexLine) → Rise (front ++ l ∷ rest) → All (λ k. l.vertex < k.vertex) rest
rest_above [] l rest h = after_first l rest h
rest_above (x ∷ xs) l rest h = rest_above xs l rest (later x (xs ++ l ∷ rest) h)

-- ---- vertices of a part that grows

stays : (lines : List (Option Line)) (v k : ℕ) (l : Line) → IsSome (part_line lines v) → IsSome (part_line (set lines k (Some l)) v)
stays [] v k l h = h
stays (x ∷ xs) zero zero l h = refl
stays (x ∷ xs) zero (suc k) l h = h
stays (x ∷ xs) (suc v) zero l h = h
stays (x ∷ xs) (suc v) (suc k) l h = stays xs v k l h

all_stay : (lines : List (Option Line)) (ls : List VertexLine) (v : ℕ) → IsSome (part_line lines v) → IsSome (part_line (with_lines lines ls) v)
all_stay lines [] v h = h
all_stay lines (l ∷ ls) v h = all_stay (set lines l.vertex (Some (told_line l))) ls v (stays lines v l.vertex (told_line l) h)

abbrev AreBelow : List (Option Line) → ℕ → Type 0
AreBelow lines n = (v : ℕ) → IsSome (part_line lines v) → v < n

below_more : (lines : List (Option Line)) (l : VertexLine) (n : ℕ) → AreBelow lines n → l.vertex < n → AreBelow (set lines l.vertex (Some (told_line l))) n
below_more lines l n old lt = λ v s.
    elim (cases_eq v l.vertex) [
      | inl e ↦ omega arith
      | inr ne ↦ old v (subst (λ (o : Option Line). IsSome o) (get_or-set_other lines l.vertex v (Some (told_line l)) None ne) s)
    ]

all_below : (lines : List (Option Line)) (ls : List VertexLine) (n : ℕ) → AreBelow lines n → All (λ k. k.vertex < n) ls → AreBelow (with_lines lines ls) n
all_below lines [] n old all = old
all_below lines (l ∷ ls) n old all =
    all_below (set lines l.vertex (Some (told_line l))) ls n (below_more lines l n old (all 0 l (omega arith))) (λ i d lt. all (suc i) d (omega arith))

pub only : (P : VertexLine → Type 0) (l : VertexLine) → P l → All P (l ∷ [])
only P l p = All-cons P l [] p (λ i d lt. absurd (omega arith))

-- a line above the part as it grew is above the part as it was
above_grown : (lines : List (Option Line)) (front : List VertexLine) (l : VertexLine) → AreAbove (with_lines lines front) (l ∷ []) → AreBelow lines l.vertex
above_grown lines front l h = λ v s. h v (all_stay lines front v s) 0 l (omega arith)

above_whole : (lines : List (Option Line)) (front : List VertexLine) (l : VertexLine) (rest : List VertexLine) → Rise (front ++ l ∷ rest)
    → AreAbove lines front → AreAbove (with_lines lines front) (l ∷ []) → AreAbove lines (front ++ l ∷ rest)
above_whole lines front l rest rise above one = λ v s.
    let here : v < l.vertex = above_grown lines front l one v s in
    let more : All (λ k. v < k.vertex) rest = λ i d lt. let a = rest_above front l rest rise i d lt in omega arith in
    All-append (λ (k : VertexLine). v < k.vertex) front (l ∷ rest) (above v s) (All-cons (λ (k : VertexLine). v < k.vertex) l rest here more)

above_one : (lines : List (Option Line)) (front : List VertexLine) (l : VertexLine) (rest : List VertexLine) → Rise (front ++ l ∷ rest)
    → AreAbove lines (front ++ l ∷ rest) → AreAbove (with_lines lines front) (l ∷ [])
above_one lines front l rest rise above = λ v s.
    let old : AreBelow lines l.vertex = λ u t. all_mid (λ (k : VertexLine). u < k.vertex) front l rest (above u t) in
    only (λ (k : VertexLine). v < k.vertex) l (all_below lines front l.vertex old (front_below front l rest rise) v s)

-- ---- steps and ends

pub added_more : (w : WorkerValue) (ls : List VertexLine) (u u' : WorkerValue) (r r' : VerticesReader) (row : List ℕ) (head : LineHead)
    → Reads r r' row (Some head) → u' ≡ adding u (line_with head row ∷ [])
    → AreAbove u.lines (line_with head row ∷ []) → Fit u (line_with head row ∷ []) → Added w ls u r → Added w ls u' r'
added_more w ls u u' r r' row head next new above fits j =
    let f = first_line j.back r' row head (next j.back j.left) in
    let l : VertexLine = line_with head row in
    let one : AreAbove (with_lines w.lines j.front) (l ∷ []) = subst (λ (x : WorkerValue). AreAbove x.lines (l ∷ [])) j.added above in
    let fit : FitsGame w.bounds (length w.map) l = subst (λ (x : WorkerValue). Fit x (l ∷ [])) j.added fits 0 l (omega arith) in
    record {
      front = j.front ++ l ∷ [];
      back = f.rest;
      parts = j.parts ∙ ap (λ (ks : List VertexLine). j.front ++ ks) f.parts ∙ sym (append_assoc j.front (l ∷ []) f.rest);
      left = f.left;
      added = new ∙ ap (λ (x : WorkerValue). adding x (l ∷ [])) j.added
          ∙ ap (λ (ks : List (Option Line)). record w { lines = ks }) (sym (with_lines_more w.lines j.front l));
      above = λ v s. All-push (λ (k : VertexLine). v < k.vertex) j.front l (j.above v s) (above_grown w.lines j.front l one v s);
      fit = All-push (FitsGame w.bounds (length w.map)) j.front l j.fit fit;
    }

refused_whole : (w : WorkerValue) (front : List VertexLine) (l : VertexLine) (rest : List VertexLine) (why : WorkerFault)
    → Rise (front ++ l ∷ rest) → AreAbove w.lines front → RefusesLines (adding w front) (l ∷ []) why
    → RefusesLines w (front ++ l ∷ rest) why
refused_whole w front l rest OutOfMemory rise above h = h
refused_whole w front l rest NotMine rise above h = h
refused_whole w front l rest BadUpdate rise above h = (
  above_whole w.lines front l rest rise above h.0,
  λ all. h.1 (only (FitsGame w.bounds (length w.map)) l (all_mid (FitsGame w.bounds (length w.map)) front l rest all)),
)
refused_whole w front l rest Order rise above h = λ all. h (above_one w.lines front l rest rise all)
refused_whole w front l rest (Wire f) rise above h = h

added_not : (w : WorkerValue) (ls : List VertexLine) (u : WorkerValue) (start r r' : VerticesReader) (row : List ℕ) (head : LineHead) (why : WorkerFault)
    → Reads r r' row (Some head) → RefusesLines u (line_with head row ∷ []) why → AreLeft start ls → Added w ls u r → RefusesLines w ls why
added_not w ls u start r r' row head why next refused h j =
    let f = first_line j.back r' row head (next j.back j.left) in
    let l : VertexLine = line_with head row in
    let parts : ls ≡ j.front ++ l ∷ f.rest = j.parts ∙ ap (λ (ks : List VertexLine). j.front ++ ks) f.parts in
    let one : RefusesLines (adding w j.front) (l ∷ []) why = subst (λ (x : WorkerValue). RefusesLines x (l ∷ []) why) j.added refused in
    subst (λ (ks : List VertexLine). RefusesLines w ks why) (sym parts) (refused_whole w j.front l f.rest why (subst Rise parts h.rising) j.above one)

-- why the lines are refused, or want of memory
pub not_added : (w : WorkerValue) (ls : List VertexLine) (u : WorkerValue) (start r r' : VerticesReader) (row : List ℕ) (head : LineHead) (why : WorkerFault)
    → Reads r r' row (Some head) → (why ≡ OutOfMemory) ⊎ RefusesLines u (line_with head row ∷ []) why → AreLeft start ls → Added w ls u r
    → (why ≡ OutOfMemory) ⊎ RefusesLines w ls why
not_added w ls u start r r' row head why next (inl memory) h j = inl memory
not_added w ls u start r r' row head why next (inr refused) h j = inr (added_not w ls u start r r' row head why next refused h j)
