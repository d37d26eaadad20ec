-- What is passed over is read.
use Rattle.pg_wire.proofs.Common.{◌≡◌, ℕ, suc, ◌+◌, ◌-◌, ◌^◌, ◌<◌, ◌≤◌, List, ◌∷◌, ◌++◌, drop, get_or, length, Result, Ok, Err, refl}
use Rattle.pg_wire.proofs.Common.{sym, ap, subst, ◌∙◌, arith, flat_map, Bor, FieldFault, VertexLine, Frame, ValueKind, Measured}
use Rattle.pg_wire.proofs.Common.{word, body, IsWell, IsWord, Spells, IsCounted, IsLeft, AreLeft, frame_with, frame_of, filled, spelled_as}
use Rattle.pg_wire.proofs.Common.{kind_number, ◌>>=◌, Reader, made, skipped, items_at, within_at, body_at, Kind, so_many, places}
use Rattle.pg_wire.specs.declared.frame.Frame.TheVariants as frames
use Rattle.pg_wire.proofs.Grammar.{IsBytes, IsBytes-drop, bind_ok, ok_is, within_is}
use Rattle.pg_wire.proofs.Bodies.{body_found, body_reads_back, one_frame}
use Rattle.pg_wire.proofs.Lengths.{counted_body, counted_spells}
use Rattle.pg_wire.proofs.Tells.{IsOf, measures_of, body_is}

result_err : {A B : Type 0} (r : Result A FieldFault) (f : A → B) (e : FieldFault) → (r >>= λ a. Ok (f a)) ≡ Err e → r ≡ Err e
result_err (Ok x) f e h = absurd cc
result_err (Err d) f e h = cc

-- what is passed over is read
pub passed : {A : Type 0} (r : Result (A × List ℕ) FieldFault) (rest : List ℕ) → (r >>= λ x. Ok x.1) ≡ Ok rest → (x : A) × (r ≡ Ok (x, rest))
passed {A} r rest h =
    let p = bind_ok r (λ (x : A × List ℕ). Ok x.1) rest h in
    (p.0.0, p.1 ∙ ap (λ (t : List ℕ). Ok (p.0.0, t)) (ok_is p.0.1 rest p.2))

pub refused : {A : Type 0} (r : Result (A × List ℕ) FieldFault) (e : FieldFault) → (r >>= λ x. Ok x.1) ≡ Err e → r ≡ Err e
refused {A} r e h = result_err r (λ (x : A × List ℕ). x.1) e h

made_ok : {A : Type 0} (f : A → ℕ) (read : Reader A) (bytes rest : List ℕ) (n : ℕ) → made f read bytes ≡ Ok (n, rest)
    → (x : A) × (read bytes ≡ Ok (x, rest)) × (f x ≡ n)
made_ok {A} f read bytes rest n h =
    let p = bind_ok (read bytes) (λ (x : A × List ℕ). Ok (f x.0, x.1)) (n, rest) h in
    let made_is : ℕ × List ℕ = (f p.0.0, p.0.1) in
    let wanted : ℕ × List ℕ = (n, rest) in
    let e = ok_is made_is wanted p.2 in
    (p.0.0, p.1 ∙ ap (λ (y : ℕ × List ℕ). Ok (p.0.0, y.1)) e, ap (λ (y : ℕ × List ℕ). y.0) e)

-- ---- a loop that passes over items

abbrev left : {A : Type 0} → A × List ℕ → Result (List ℕ) FieldFault
left x = Ok x.1

abbrev put : {A : Type 0} → A → List A × List ℕ → Result (List A × List ℕ) FieldFault
put x xs = Ok (x ∷ xs.0, xs.1)

one_less : {A : Type 0} (x : A) (r : Result (List A × List ℕ) FieldFault) → ((r >>= put x) >>= left) ≡ (r >>= left)
one_less x (Ok y) = refl
one_less x (Err e) = refl

pub goes_on : {A : Type 0} (k : Kind A) (count i at at' : ℕ) (bytes after : List ℕ) (total : Result (List ℕ) FieldFault)
    → i < count → made k.next (k.read at) bytes ≡ Ok (at', after) → skipped (so_many k (count - i) at).read bytes ≡ total
    → skipped (so_many k (count - (i + 1)) at').read after ≡ total
unfolding items_at
goes_on k count i at at' bytes after total lt h so_far =
    let p = made_ok k.next (k.read at) bytes after at' h in
    let n : count - i ≡ suc (count - (i + 1)) = omega arith in
    let one : skipped (so_many k (count - i) at).read bytes ≡ skipped (so_many k (count - (i + 1)) (k.next p.0)).read after =
    rw (n, p.1) (one_less p.0 (items_at k.read k.next (count - (i + 1)) (k.next p.0) after)) in
    ap (λ (m : ℕ). skipped (so_many k (count - (i + 1)) m).read after) (sym p.2) ∙ sym one ∙ so_far

pub ends : {A : Type 0} (k : Kind A) (e : FieldFault) (count i at : ℕ) (bytes : List ℕ) (total : Result (List ℕ) FieldFault)
    → i < count → made k.next (k.read at) bytes ≡ Err e → skipped (so_many k (count - i) at).read bytes ≡ total → total ≡ Err e
unfolding items_at
ends {A} k e count i at bytes total lt h so_far =
    let n : count - i ≡ suc (count - (i + 1)) = omega arith in
    let refused : k.read at bytes ≡ Err e = result_err (k.read at bytes) (λ (x : A × List ℕ). (k.next x.0, x.1)) e h in
    let one : skipped (so_many k (count - i) at).read bytes ≡ Err e = rw (n, refused) refl in
    sym so_far ∙ one

pub is_done : {A : Type 0} (k : Kind A) (count i at : ℕ) (bytes : List ℕ) (total : Result (List ℕ) FieldFault)
    → count ≤ i → skipped (so_many k (count - i) at).read bytes ≡ total → total ≡ Ok bytes
unfolding items_at
is_done k count i at bytes total le so_far =
    let n : count - i ≡ 0 = omega arith in
    let one : skipped (so_many k (count - i) at).read bytes ≡ Ok bytes = rw n refl in
    sym so_far ∙ one

-- ---- the body of a frame

pub checked_found : (bytes rest : List ℕ) → IsBytes bytes → IsCounted bytes rest → ((f : Frame) × (body_at rest ≡ Ok f))
    → (f : Frame) × Spells f bytes × (rest ≡ body f)
checked_found bytes rest h c p =
    let small : IsBytes rest = subst IsBytes (ap (drop 4) c.whole) (IsBytes-drop 4 bytes h) in
    let q = body_found rest p.0 small p.1 in
    (p.0, counted_spells bytes rest p.0 c q.0 q.1, q.0)

pub checked_none : (bytes rest : List ℕ) (e : FieldFault) (f : Frame) → IsCounted bytes rest → body_at rest ≡ Err e → Spells f bytes → ⊥
checked_none bytes rest e f c h s =
    let ok : body_at rest ≡ Ok f = ap body_at (counted_body bytes rest f c s) ∙ body_reads_back f s.well in
    absurd (cc (sym ok ∙ h))

-- the body of the frame that is spelled
pub spelled_body : (bytes rest : List ℕ) (g : Frame) → ((f : Frame) × Spells f bytes × (rest ≡ body f)) → Spells g bytes → rest ≡ body g
spelled_body bytes rest g p s = p.2 ∙ ap body (one_frame p.0 g bytes p.1 s)

-- a number that is read is the one that is spelled
number_read : (n m : ℕ) (bytes rest more : List ℕ) → IsWord m → bytes ≡ word m ++ more → within_at 0 (2 ^ 32) bytes ≡ Ok (n, rest)
    → (n ≡ m) × (rest ≡ more)
number_read n m bytes rest more h e a =
    let found : ℕ × List ℕ = (n, rest) in
    let wanted : ℕ × List ℕ = (m, more) in
    let same : found ≡ wanted = ok_is found wanted (sym a ∙ ap (within_at 0 (2 ^ 32)) e ∙ (within_is 0 (2 ^ 32)).reads_back m more (omega arith, h, h)) in
    (ap (λ (y : ℕ × List ℕ). y.0) same, ap (λ (y : ℕ × List ℕ). y.1) same)

-- what the fields of a well frame of a kind are
abbrev Parts : ValueKind → Frame → List ℕ → Type 0
Parts kind f bytes = (o : IsOf kind f) × (bytes ≡ word o.width ++ (word (length o.list) ++ flat_map (spelled_as kind) o.list))

parts_of : (kind : ValueKind) (f : Frame) (bytes : List ℕ) → IsWell f → (kind_number kind ∷ bytes) ≡ body f → Parts kind f bytes
parts_of kind f bytes well e =
    let o = measures_of kind f bytes well e in
    (o, ap (drop 1) (e ∙ ap body (sym o.same) ∙ body_is kind o.width o.list))

pub measures_left : (kind : ValueKind) (f : Frame) (width count : ℕ) (bytes list : List ℕ) (values : Bor (List ℕ)) → IsWell f
    → (kind_number kind ∷ bytes) ≡ body f → within_at 0 (2 ^ 32) bytes ≡ Ok (width, list) → within_at 0 (2 ^ 32) list ≡ Ok (count, values.now)
    → (ms : List Measured) × (f ≡ frame_of kind width ms) × IsLeft (record { kind = kind; width = width; bytes = values }) ms
measures_left kind f width count bytes list values well e a b =
    let q = parts_of kind f bytes well e in
    let few = q.0.measures.within in
    let countable = q.0.measures.countable in
    let first = number_read width q.0.width bytes list _ (omega (arith, few)) q.1 a in
    let second = number_read count (length q.0.list) list values.now _ countable first.1 b in
    let P : ℕ → Type 0 = λ w. (ms : List Measured) × (f ≡ frame_of kind w ms) × IsLeft (record { kind = kind; width = w; bytes = values }) ms in
    subst P (sym first.0) (q.0.list, sym q.0.same, record { width = few; measures = q.0.measures.each; spelled = second.1 })

pub lines_left : (f : Frame) (count : ℕ) (bytes : List ℕ) (rest : Bor (List ℕ)) → IsWell f → (2 ∷ bytes) ≡ body f
    → within_at 0 (2 ^ 32) bytes ≡ Ok (count, rest.now) → (ls : List VertexLine) × (f ≡ frame_with ls) × AreLeft (record { bytes = rest }) ls
lines_left (frames.Vertices v) count bytes rest well e a =
    let first = number_read count (length v.lines) bytes rest.now _ well.countable (ap (drop 1) e) a in
    (v.lines, refl, record { lines = well.lines; rising = well.rising; spelled = first.1 })
lines_left f count bytes rest well e a = absurd (omega (arith, ap (λ (bs : List ℕ). get_or bs 0 0) e))

-- ---- the list of a measure

pub filled_read : (width count : ℕ) (bytes : List ℕ) (ps : List (ℕ × ℕ)) (rest : List ℕ) → (so_many (places width) count 0).read bytes ≡ Ok (ps, rest)
    → made (filled width) (so_many (places width) count 0).read bytes ≡ Ok (filled width ps, rest)
filled_read width count bytes ps rest h = rw h refl

pub filled_refused : (width count : ℕ) (bytes : List ℕ) (e : FieldFault) → (so_many (places width) count 0).read bytes ≡ Err e
    → made (filled width) (so_many (places width) count 0).read bytes ≡ Err e
filled_refused width count bytes e h = rw h refl
