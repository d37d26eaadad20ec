-- The rows of a cube.
use Rattle.std.proofs.Common.{◌≡◌, ℕ, zero, suc, ◌+◌, ◌<◌, Bool, true, false, List, [], ◌∷◌, ◌++◌, Option, Some, None, cond, length, get_or, map, take, append_assoc, refl, sym, ap, subst, ◌∙◌, arith, true≢false}
use Rattle.std.specs.Prelude.{All}
use Rattle.std.specs.Option.{IfSome}
use Rattle.std.specs.declared.vec.Vec.{Vec}
use Rattle.std.specs.declared.alloc.Global.{Global}
use Rattle.std.proofs.lemmas.List.Elements.{All-pop, All-push}
use Rattle.std.proofs.lemmas.List.{map_more}
use Rattle.pg_aiger.specs.declared.gate.Gate.{Gate}
use Rattle.pg_aiger.specs.declared.gate.Latch.{Latch}
use Rattle.pg_aiger.specs.Runs.{Valuation, value, Satisfies}
use Rattle.pg_satisfies_check.specs.declared.system.CircuitPart.{CircuitPart}
use Rattle.pg_satisfies_check.specs.declared.system.Bit.{Bit}
use Rattle.pg_satisfies_check.specs.declared.cube.LatchCube.{LatchCube}
use Rattle.pg_satisfies_check.specs.Certificates.{AreBits, IsStep}
use Rattle.pg_satisfies_check.specs.Mirrors.Known.{IsKnown, IsBlank, Learns, known_at, literal_in}
use Rattle.pg_satisfies_check.specs.Mirrors.Steps.{circuit_of, spoken_of, view, IsSeen, Rows, NoneKnown, NoneSeen, ArePieces, Assumes, Begins, HasRow, WereWrong, KeepsRows, KeepsSeen}
use Rattle.pg_satisfies_check.proofs.Knowing.{known_literal}

-- ---- assumptions

module _ (s : CircuitPart) (row : List (Option Bool)) (l : ℕ) (is : Bool) (copy : List (Option Bool)) (ok : Bool) (new : List (Option Bool))
    (seen : List (Option Bool)) (same : copy ≡ row) (e : seen ≡ copy) (learns : Learns (λ u. value u l ≡ is) seen ok new) where
  learnt : (u : Valuation) → IsKnown row u → value u l ≡ is → (ok ≡ true) × IsKnown new u
  learnt u known so = learns u so (subst (λ r. IsKnown r u) (sym (e ∙ same)) known)

  pub clash_at_once : ok ≡ false → Assumes s row l is None
  clash_at_once not u step known so = absurd (true≢false (sym (learnt u known so).0 ∙ not))

  module _ (okay : Bool) (last : List (Option Bool)) (again : List (Option Bool)) (f : again ≡ new) (gates : List Gate)
      (g : gates ≡ s.gates.items) (passed : Learns (λ u. Satisfies u gates) again okay last) where
    passed_by : (u : Valuation) → IsStep (circuit_of s) u → IsKnown row u → value u l ≡ is → (okay ≡ true) × IsKnown last u
    passed_by u step known so =
        passed u (subst (Satisfies u) (sym g) step.gates) (subst (λ r. IsKnown r u) (sym f) (learnt u known so).1)

    pub clash_later : okay ≡ false → Assumes s row l is None
    clash_later not u step known so = absurd (true≢false (sym (passed_by u step known so).0 ∙ not))

    pub assumed : (kept_row : Vec (Option Bool) Global) → kept_row.items ≡ last → Assumes s row l is (Some kept_row)
    assumed kept_row h u step known so = subst (λ r. IsKnown r u) (sym h) (passed_by u step known so).1

-- ---- the beginning

pub none_is : (b : Bool) → ◌≡◌ {A = Option Bool} None (Some b) → ⊥
none_is b e = cc

pub known_blank : (row : List (Option Bool)) (u : Valuation) → IsBlank row → IsKnown row u
known_blank row u blank x b e = absurd (none_is b (sym (blank x) ∙ e))

module _ (s : CircuitPart) (bits : List Bit) (blank_row : List (Option Bool)) (ok : Bool) (new : List (Option Bool)) (blank : IsBlank blank_row)
    (learns : Learns (λ u. IsStep (circuit_of s) u × AreBits s.latches.items u bits) blank_row ok new) where
  pub no_beginning : ok ≡ false → Begins s bits None
  no_beginning not u step are = absurd (true≢false (sym (learns u (step, are) (known_blank blank_row u blank)).0 ∙ not))

  pub beginning : (row : Vec (Option Bool) Global) → row.items ≡ new → Begins s bits (Some row)
  beginning row e u step are = subst (λ r. IsKnown r u) (sym e) (learns u (step, are) (known_blank blank_row u blank)).1

pub assumes_at : (s : CircuitPart) (row other : List (Option Bool)) (l : ℕ) (is : Bool) (o : Option (Vec (Option Bool) Global)) → row ≡ other
    → Assumes s row l is o → Assumes s other l is o
assumes_at s row other l is o e h = subst (λ r. Assumes s r l is o) e h

-- ---- what is kept of a row

pub seen_map : (literals : List ℕ) (row : List (Option Bool)) (u : Valuation) → IsKnown row u
    → IsKnown (map (literal_in row) literals) (view literals u)
seen_map [] row u known k b e = absurd (none_is b e)
seen_map (l ∷ ls) row u known zero b e = known_literal row u l b e known
seen_map (l ∷ ls) row u known (suc k) b e = seen_map ls row u known k b e

-- the values as they are read one after another
pub spoken_is : (row : List (Option Bool)) (latches : List Latch) (literals : List ℕ)
    → map (λ (l : Latch). literal_in row l.next) latches ++ map (literal_in row) literals
    ≡ map (literal_in row) (map Latch.next latches ++ literals)
spoken_is row [] literals = refl
spoken_is row (l ∷ ls) literals = ap (λ (xs : List (Option Bool)). literal_in row l.next ∷ xs) (spoken_is row ls literals)

pub map_read : {A B : Type 0} (f : A → B) (xs : List A) (i : ℕ) (d : A) (v : B) (before old new : List B)
    → i < length xs → old ≡ before ++ map f (take i xs) → new ≡ old ++ v ∷ [] → v ≡ f (get_or xs i d)
    → new ≡ before ++ map f (take (i + 1) xs)
map_read {A} {B} f xs i d v before old new lt was pushed is =
    pushed ∙ ap (λ (ys : List B). ys ++ v ∷ []) was ∙ append_assoc before (map f (take i xs)) (v ∷ [])
    ∙ ap (λ (ys : List B). before ++ ys)
    (ap (λ (x : B). map f (take i xs) ++ x ∷ []) is ∙ sym (map_more f xs i d lt))

-- where another row says no more, this one isn't right either
pub served : (s : CircuitPart) (rows : Rows) (k : ℕ) (other : Vec (Option Bool) Global) (seen row : List (Option Bool)) (u : Valuation)
    → k < length rows → other ≡ get_or rows k other → seen ≡ other.items
    → ((x : ℕ) (b : Bool) → known_at seen x ≡ Some b → known_at row x ≡ Some b) → NoneSeen s rows u → ¬ IsSeen s row u
served s rows k other seen row u lt is same less none known =
    none k other lt (λ x b e. known x b (less x b (ap (λ (r : List (Option Bool)). known_at r x)
    (same ∙ ap (λ (r : Vec (Option Bool) Global). r.items) is) ∙ e)))

pub right_pushed : (P : LatchCube → Type 0) (old new : List LatchCube) (cube : LatchCube) (b : Bool) → new ≡ cond b (old ++ cube ∷ []) old
    → All P old → P cube → All P new
right_pushed P old new cube true e h p = subst (λ (cs : List LatchCube). All P cs) (sym e) (All-push P old cube h p)
right_pushed P old new cube false e h p = subst (λ (cs : List LatchCube). All P cs) (sym e) h

pub keeps_pushed : (row : Vec (Option Bool) Global) (old new : Rows) → new ≡ old ++ row ∷ [] → KeepsSeen row.items old new
keeps_pushed row old new e s u none =
    let h = All-pop (λ (r : Vec (Option Bool) Global). ¬ IsSeen s r.items u) new old (Some row) e none in (h.1, h.0)

-- a row that is kept
pub keeps_aside : (s : CircuitPart) (row seen values : List (Option Bool)) (stack rows new : Rows) → seen ≡ row
    → values ≡ map (literal_in seen) (spoken_of s) → KeepsSeen values rows new → KeepsRows s row stack rows stack new
keeps_aside s row seen values stack rows new same e keeps u step none_stack none_new =
    let k = keeps s u none_new in
    record {
      row = λ known. k.0 (subst (λ r. IsKnown r (view (spoken_of s) u)) (sym e)
          (seen_map (spoken_of s) seen u (subst (λ r. IsKnown r u) (sym same) known)));
      stack = none_stack;
      rows = k.1;
    }

abbrev Wrong : Valuation → Vec (Option Bool) Global → Type 0
Wrong u r = ¬ IsKnown r.items u

wrong_by : (s : CircuitPart) (row : List (Option Bool)) (l : ℕ) (is : Bool) (o : Option (Vec (Option Bool) Global)) (u : Valuation)
    → Assumes s row l is o → IsStep (circuit_of s) u → value u l ≡ is → IfSome o (Wrong u) → ¬ IsKnown row u
wrong_by s row l is None u assumes step so none known = assumes u step known so
wrong_by s row l is (Some r) u assumes step so none known = none (assumes u step known so)

-- a row that is cut in two
pub keeps_cut : (s : CircuitPart) (row : List (Option Bool)) (l : ℕ) (stack mid new rows : Rows) (o p : Option (Vec (Option Bool) Global))
    → Assumes s row l true o → Assumes s row l false p → HasRow stack o mid → HasRow mid p new → KeepsRows s row stack rows new rows
keeps_cut s row l stack mid new rows o p is_yes is_no first second u step none_new none_rows =
    record { row = by_value (value u l) refl; stack = before.0; rows = none_rows }
  where
    after : All (Wrong u) mid × IfSome p (Wrong u)
    after = All-pop (Wrong u) new mid p second none_new

    before : All (Wrong u) stack × IfSome o (Wrong u)
    before = All-pop (Wrong u) mid stack o first after.0

    by_value : (b : Bool) → value u l ≡ b → ¬ IsKnown row u
    by_value true e = wrong_by s row l true o u is_yes step e before.1
    by_value false e = wrong_by s row l false p u is_no step e after.1

-- ---- the loop

abbrev pub NotAll : CircuitPart → List Bit → Rows → Rows → Type 0
NotAll s bits stack rows =
    (u : Valuation) → IsStep (circuit_of s) u → AreBits s.latches.items u bits → NoneKnown stack u → NoneSeen s rows u → ⊥

pub one_piece : (s : CircuitPart) (bits : List Bit) (row : Vec (Option Bool) Global) (less stack rows : Rows) → stack ≡ less ++ row ∷ []
    → Begins s bits (Some row) → NotAll s bits stack rows
one_piece s bits row less stack rows e begins u step are none_stack none_rows =
    (All-pop (Wrong u) stack less (Some row) e none_stack).1 (begins u step are)

pub keeps_pop : (s : CircuitPart) (bits : List Bit) (row : Vec (Option Bool) Global) (stack less rows new new_rows : Rows) → stack ≡ less ++ row ∷ []
    → KeepsRows s row.items less rows new new_rows → NotAll s bits stack rows → NotAll s bits new new_rows
keeps_pop s bits row stack less rows new new_rows e keeps before u step are none_stack none_rows =
    let w = keeps u step none_stack none_rows in
    before u step are (subst (λ (rs : Rows). All (Wrong u) rs) (sym e) (All-push (Wrong u) less row w.stack w.row)) w.rows

pub all_aside : (s : CircuitPart) (bits : List Bit) (stack rows : Rows) → length stack ≡ 0 → NotAll s bits stack rows → ArePieces s bits rows
all_aside s bits stack rows e before u step are none_rows = before u step are (λ k d lt. absurd (omega arith)) none_rows

pub no_pieces : (s : CircuitPart) (bits : List Bit) (rows : Rows) → Begins s bits None → ArePieces s bits rows
no_pieces s bits rows none u step are none_rows = none u step are

pub begins_at : (s : CircuitPart) (bits : List Bit) (o p : Option (Vec (Option Bool) Global)) → o ≡ p → Begins s bits o → Begins s bits p
begins_at s bits o p f h = subst (λ x. Begins s bits x) f h
