-- Lines are accepted one after another exactly if they are within the limits.
use Rattle.pg_text.proofs.Common.{◌≡◌, ◌≢◌, ℕ, ◌+◌, ◌-◌, ◌≤◌, ◌<◌, true, false, eqb, List, [], ◌∷◌, ◌++◌, length, map, None, refl, sym, ap}
use Rattle.pg_text.proofs.Common.{subst, ◌∙◌, arith, append_assoc, Contains, list_any, AllByRecursion, IsDistinct, nat_tests, eqb-false}
use Rattle.pg_text.proofs.Common.{ne_eqb, length-append, map-append, append-nil, sum_by-append, sum_by-cons, recursion_from_All}
use Rattle.pg_text.proofs.Common.{All-from_recursion, nat_eq_equiv, IsDistinct-push, IsDistinct-head, IsDistinct-tail, GameVertex}
use Rattle.pg_text.proofs.Common.{identifiers, edge_count, Line, counted, add_fault, is_named, Accepts, IsGameOf, rising, contains_mapped}
use Rattle.pg_text.proofs.Common.{rising_length, contains_rising, no_unknown, AreWithinLimits}
use Rattle.pg_arena.proofs.Adding.{accepted as line_accepted}

abbrev size : Line → ℕ
size line = length line.successors

-- ---- identifiers

counted_identifiers : (lines : List Line) → identifiers (map counted lines) ≡ identifiers lines
counted_identifiers [] = refl
counted_identifiers (line ∷ lines) = ap (λ (ns : List ℕ). line.identifier ∷ ns) (counted_identifiers lines)

named_among : (lines : List Line) (n : ℕ) → is_named lines n ≡ list_any (eqb n) (identifiers lines)
named_among [] n = refl
named_among (line ∷ lines) n = rw (named_among lines n) refl

-- what stands behind a number differs from it
apart : (xs : List ℕ) (y : ℕ) (ys : List ℕ) → IsDistinct eqb (xs ++ y ∷ ys) → list_any (eqb y) xs ≡ false
apart [] y ys d = refl
apart (x ∷ xs) y ys d =
    let head = seam xs (IsDistinct-head eqb x (xs ++ y ∷ ys) d) in
    let other : eqb y x ≡ false = ne_eqb y x (λ e. eqb-false x y head (sym e)) in
    rw (other, apart xs y ys (IsDistinct-tail eqb x (xs ++ y ∷ ys) d)) refl
  where
    seam : (zs : List ℕ) → AllByRecursion (λ z. eqb x z ≡ false) (zs ++ y ∷ ys) → eqb x y ≡ false
    seam [] each = each.0
    seam (z ∷ zs) each = seam zs each.1

-- ---- the lines behind others

abbrev IsFair : Line → Type 0
IsFair line = (line.priority ≤ 65535) × (line.successors ≢ [])

record AreWithin (before lines : List Line) : Type 0 where
  distinct : IsDistinct eqb (identifiers (before ++ map counted lines))
  fair : AllByRecursion IsFair lines
  few : length lines ≤ 1048576 - length before
  fits : edge_count (map counted lines) ≤ 8388608 - edge_count before

push_identifiers : (before : List Line) (line : Line) → identifiers (before ++ line ∷ []) ≡ identifiers before ++ line.identifier ∷ []
push_identifiers before line = map-append (λ (l : Line). l.identifier) before (line ∷ [])

push_edges : (before : List Line) (line : Line) → edge_count (before ++ line ∷ []) ≡ edge_count before + size line
push_edges before line = sum_by-append size before (line ∷ []) ∙ ap (λ (n : ℕ). edge_count before + n) (sum_by-cons size line [] ∙ omega arith)

regroup : (before : List Line) (line : Line) (rest : List Line) → (before ++ line ∷ []) ++ rest ≡ before ++ line ∷ rest
regroup before line rest = append_assoc before (line ∷ []) rest

accepted : (before lines : List Line) → IsDistinct eqb (identifiers before) → Accepts before lines → AreWithin before lines
accepted before [] d a = record {
  distinct = subst (λ (ls : List Line). IsDistinct eqb (identifiers ls)) (sym (append-nil before)) d;
  fair = tt;
  few = omega arith;
  fits = omega arith;
}
accepted before (line ∷ lines) d a =
    let p = line_accepted before (counted line) a.0 in
    let fresh = sym (named_among before line.identifier) ∙ p.unnamed in
    let more = subst (IsDistinct eqb) (sym (push_identifiers before (counted line)))
    (IsDistinct-push nat_eq_equiv (identifiers before) line.identifier d fresh) in
    let later = accepted (before ++ counted line ∷ []) lines more a.1 in
    record {
      distinct = subst (λ (ls : List Line). IsDistinct eqb (identifiers ls)) (regroup before (counted line) (map counted lines)) later.distinct;
      fair = ((p.passes.priority, λ none. omega (arith, p.passes.some, ap (λ (ns : List ℕ). length (rising ns)) none)), later.fair);
      few = omega (arith, later.few, p.few, length-append before (counted line ∷ []));
      fits = omega (arith, later.fits, p.fits, push_edges before (counted line), sum_by-cons size (counted line) (map counted lines));
    }

accepts : (before lines : List Line) → IsDistinct eqb (identifiers (before ++ map counted lines)) → AllByRecursion IsFair lines
    → length before + length lines ≤ 1048576 → edge_count before + edge_count (map counted lines) ≤ 8388608 → Accepts before lines
accepts before [] d fair few fits = tt
accepts before (line ∷ lines) d fair few fits =
    let edges = sum_by-cons size (counted line) (map counted lines) in
    let fresh : is_named before line.identifier ≡ false = named_among before line.identifier
    ∙ apart (identifiers before) line.identifier (identifiers (map counted lines))
    (subst (IsDistinct eqb) (map-append (λ (l : Line). l.identifier) before (map counted (line ∷ lines))) d) in
    let some = rising_length line.successors (long line.successors fair.0.1) in
    let here : add_fault before (counted line) ≡ None = grind (arith, nat_tests, fair.0.0, some, fresh, few, edges, fits) in (
      here,
      accepts (before ++ counted line ∷ []) lines (subst (λ (ls : List Line). IsDistinct eqb (identifiers ls))
          (sym (regroup before (counted line) (map counted lines))) d) fair.1
          (omega (arith, few, length-append before (counted line ∷ []))) (omega (arith, fits, edges, push_edges before (counted line))),
    )
  where
    long : (ns : List ℕ) → ns ≢ [] → 0 < length ns
    long [] h = absurd (h refl)
    long (n ∷ ns) h = omega arith

-- ---- all lines

fair_of : (lines : List Line) → AllByRecursion (λ (l : Line). l.priority ≤ 65535) lines
    → AllByRecursion (λ (l : Line). l.successors ≢ []) lines → AllByRecursion IsFair lines
fair_of [] p s = tt
fair_of (line ∷ lines) p s = ((p.0, s.0), fair_of lines p.1 s.1)

priorities_of : (lines : List Line) → AllByRecursion IsFair lines → AllByRecursion (λ (l : Line). l.priority ≤ 65535) lines
priorities_of [] f = tt
priorities_of (line ∷ lines) f = (f.0.0, priorities_of lines f.1)

successors_of : (lines : List Line) → AllByRecursion IsFair lines → AllByRecursion (λ (l : Line). l.successors ≢ []) lines
successors_of [] f = tt
successors_of (line ∷ lines) f = (f.0.1, successors_of lines f.1)

none_distinct : IsDistinct eqb []
unfolding IsDistinct
none_distinct = tt

pub within_limits : (lines : List Line) → Accepts [] lines → AreWithinLimits lines
within_limits lines a =
    let w = accepted [] lines none_distinct a in
    record {
      distinct = subst (IsDistinct eqb) (counted_identifiers lines) w.distinct;
      priorities = All-from_recursion (λ (l : Line). l.priority ≤ 65535) lines (priorities_of lines w.fair);
      successors = All-from_recursion (λ (l : Line). l.successors ≢ []) lines (successors_of lines w.fair);
      vertices = omega (arith, w.few);
      edges = omega (arith, w.fits);
    }

pub are_accepted : (lines : List Line) → AreWithinLimits lines → Accepts [] lines
are_accepted lines w =
    accepts [] lines (subst (IsDistinct eqb) (sym (counted_identifiers lines)) w.distinct)
    (fair_of lines (recursion_from_All (λ (l : Line). l.priority ≤ 65535) lines w.priorities)
    (recursion_from_All (λ (l : Line). l.successors ≢ []) lines w.successors))
    (omega (arith, w.vertices)) (omega (arith, w.edges))

-- ---- successors

pub successors_named : (lines : List Line) (game : List GameVertex) (line : Line) (n : ℕ) → IsGameOf (map counted lines) game
    → Contains lines line → Contains line.successors n → is_named lines n ≡ true
successors_named lines game line n made given leads =
    elim (is_named lines n) as (λ b. is_named lines n ≡ b → b ≡ true) [
      | true ↦ λ e. refl
      | false ↦ λ e. absurd (no_unknown (map counted lines) game line.identifier n made (record {
        line = counted line;
        given = contains_mapped counted lines line given;
        of = refl;
        leads = contains_rising line.successors n leads;
        undefined = named_among (map counted lines) n ∙ ap (list_any (eqb n)) (counted_identifiers lines) ∙ sym (named_among lines n) ∙ e;
      }))
    ] refl
