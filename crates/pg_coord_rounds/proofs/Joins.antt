-- Measures that are read and joined one after the other.
use Rattle.pg_coord_rounds.proofs.Common.{◌≡◌, ℕ, zero, suc, Bool, List, [], ◌∷◌, ◌++◌, length, Some, None, refl, sym, ap, ◌∙◌, subst}
use Rattle.pg_coord_rounds.proofs.Common.{append_assoc, arith, get_or, All, append-nil, get_or_push, length-append, All-append, MeasureValue}
use Rattle.pg_coord_rounds.proofs.Common.{AtMost, at_most_all, measure_at, MapAtMost, map_transitive, ValuesReader, IsLeft, IsNext, Measured}
use Rattle.pg_coord_rounds.proofs.Common.{IsAtLeast, Joins, in_row, first_is, none_left, CoordinatorMap, Moves, all_left, all_right}

pub all_one : {A : Type 0} (P : A → Type 0) (x : A) → P x → All P (x ∷ [])
all_one P x p zero d lt = p
all_one P x p (suc k) d lt = absurd (omega arith)

pub one_of : {A : Type 0} (P : A → Type 0) (x : A) → All P (x ∷ []) → P x
one_of P x h = h 0 x (omega arith)

all_last : {A : Type 0} (P : A → Type 0) (xs : List A) (x : A) → All P (xs ++ x ∷ []) → P x
all_last P xs x h = subst P (get_or_push xs x x (length xs) refl) (h (length xs) x (omega (arith, length-append xs (x ∷ []))))

pub at_least_after : (f g : List MeasureValue) (ms : List Measured) → MapAtMost f g → IsAtLeast f ms → IsAtLeast g ms
at_least_after f g ms le h = λ i d lt. let m = get_or ms i d in at_most_all m.1 (measure_at f m.0) (measure_at g m.0) (h i d lt) (le m.0)

-- ---- joins

-- measures are joined, and then others
pub joins_then : (f g h : List MeasureValue) (ms ns : List Measured) → Joins f ms g → Joins g ns h → Joins f (ms ++ ns) h
joins_then f g h ms ns j k =
    let Under : List MeasureValue → Measured → Type 0 = λ m n. AtMost n.1 (measure_at m n.0) in
    record {
      size = k.size ∙ j.size;
      above = map_transitive f g h j.above k.above;
      each = All-append (Under h) ms ns (at_least_after g h ms k.above j.each) k.each;
      least = λ m le each. k.least m (j.least m le (all_left (Under m) ms ns each)) (all_right (Under m) ms ns each);
    }

-- one measure is joined
pub joins_one : (f g : CoordinatorMap) (v : ℕ) (m : MeasureValue) → Moves f g → AtMost m (measure_at g.map.measures v)
    → ((h : List MeasureValue) → MapAtMost f.map.measures h → AtMost m (measure_at h v) → MapAtMost g.map.measures h)
    → Joins f.map.measures ((v, m) ∷ []) g.map.measures
joins_one f g v m moves above least =
    let Under : List MeasureValue → Measured → Type 0 = λ h n. AtMost n.1 (measure_at h n.0) in
    record {
      size = moves.size;
      above = moves.above;
      each = all_one (Under g.map.measures) (v, m) above;
      least = λ h le each. least h le (one_of (Under h) (v, m) each);
    }

-- ---- measures that are read one after the other

-- Q holds of those of the measures that were read, and the others are left
pub record HasRead (Q : List Measured → Type 0) (ms : List Measured) (r : ValuesReader) : Type 0 where
  pub front : List Measured
  pub back : List Measured
  pub parts : ms ≡ front ++ back
  pub left : IsLeft r back
  pub holds : Q front

pub read_none : (Q : List Measured → Type 0) (ms : List Measured) (r : ValuesReader) → IsLeft r ms → Q [] → HasRead Q ms r
read_none Q ms r h q = record { front = []; back = ms; parts = refl; left = h; holds = q }

-- the next measure is m
record ReadsNext (Q : List Measured → Type 0) (ms : List Measured) (r : ValuesReader) (m : Measured) : Type 0 where
  front : List Measured
  back : List Measured
  parts : ms ≡ (front ++ m ∷ []) ++ back
  left : IsLeft r back
  holds : Q front

reads_next : (Q : List Measured → Type 0) (ms : List Measured) (r r' : ValuesReader) (row row' : List ℕ) (n : ℕ) (top : Bool)
    → ((back : List Measured) → IsLeft r back → IsNext back r' row row' (Some (n, top))) → HasRead Q ms r → ReadsNext Q ms r' (n, in_row top row')
reads_next Q ms r r' row row' n top next h =
    let f = first_is h.back r' row row' n top (next h.back h.left) in
    let m : Measured = (n, in_row top row') in
    record {
      front = h.front;
      back = f.rest;
      parts = h.parts ∙ ap (λ (ns : List Measured). h.front ++ ns) f.parts ∙ sym (append_assoc h.front (m ∷ []) f.rest);
      left = f.left;
      holds = h.holds;
    }

-- the next measure was read
pub read_more : (Q R : List Measured → Type 0) (ms : List Measured) (r r' : ValuesReader) (row row' : List ℕ) (n : ℕ) (top : Bool)
    → ((back : List Measured) → IsLeft r back → IsNext back r' row row' (Some (n, top)))
    → ((front : List Measured) → Q front → R (front ++ (n, in_row top row') ∷ [])) → HasRead Q ms r → HasRead R ms r'
read_more Q R ms r r' row row' n top next also h =
    let x = reads_next Q ms r r' row row' n top next h in
    let m : Measured = (n, in_row top row') in
    record { front = x.front ++ m ∷ []; back = x.back; parts = x.parts; left = x.left; holds = also x.front x.holds }

-- what holds of all holds of the next one
pub read_holds : (P : Measured → Type 0) (Q : List Measured → Type 0) (ms : List Measured) (r r' : ValuesReader) (row row' : List ℕ) (n : ℕ) (top : Bool)
    → ((back : List Measured) → IsLeft r back → IsNext back r' row row' (Some (n, top))) → HasRead Q ms r → All P ms → P (n, in_row top row')
read_holds P Q ms r r' row row' n top next h every =
    let x = reads_next Q ms r r' row row' n top next h in
    let m : Measured = (n, in_row top row') in
    all_last P x.front m (all_left P (x.front ++ m ∷ []) x.back (subst (All P) x.parts every))

-- none is left
pub read_all : (Q : List Measured → Type 0) (ms : List Measured) (r r' : ValuesReader) (row row' : List ℕ)
    → ((back : List Measured) → IsLeft r back → IsNext back r' row row' None) → HasRead Q ms r → Q ms
read_all Q ms r r' row row' next h =
    let none : h.back ≡ [] = none_left h.back r' row row' (next h.back h.left) in
    subst Q (sym (h.parts ∙ ap (λ (ns : List Measured). h.front ++ ns) none ∙ append-nil h.front)) h.holds
