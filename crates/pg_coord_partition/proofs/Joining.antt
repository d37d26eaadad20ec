-- Measures that are joined to a map one after the other.
use Rattle.std.proofs.Common.{◌≡◌, ℕ, ◌<◌, Bool, true, false, List, [], ◌∷◌, ◌++◌, length, None, refl, ◌∙◌, subst, inl, inr, arith}
use Rattle.std.specs.Prelude.{All, MatchBool, slice_set}
use Rattle.std.proofs.lemmas.Bool.{cases_eq}
use Rattle.std.proofs.lemmas.List.{get_or-set_same, get_or-set_other, get_or_append_left, get_or_push, length-append}
use Rattle.std.proofs.lemmas.List.Elements.{All-push}
use Rattle.pg_measure.specs.Measures.{MeasureValue, AtMost, IsBelow}
use Rattle.pg_measure.proofs.Order.{at_most_same, at_most_all}
use Rattle.pg_map.specs.Maps.{measure_at, MapAtMost}
use Rattle.pg_map.specs.Lemmas.Orders.{map_reflexive, map_transitive}
use Rattle.pg_wire.specs.Measured.{Measured}
use Rattle.pg_coord_partition.specs.Frames.{Joins}

pub all_none : (P : Measured → Type 0) → All P []
all_none P = λ i d lt. absurd (omega arith)

all_front : (P : Measured → Type 0) (ms : List Measured) (m : Measured) → All P (ms ++ m ∷ []) → All P ms × P m
all_front P ms m h = (
  λ i d lt. subst P (get_or_append_left ms (m ∷ []) d i lt) (h i d (omega (arith, length-append ms (m ∷ [])))),
  subst P (get_or_push ms m m (length ms) refl) (h (length ms) m (omega (arith, length-append ms (m ∷ [])))),
)

all_map : (P Q : Measured → Type 0) (ms : List Measured) → ((m : Measured) → P m → Q m) → All P ms → All Q ms
all_map P Q ms f h = λ i d lt. f _ (h i d lt)

pub joins_none : (f : List MeasureValue) → Joins f [] f
joins_none f = record { size = refl; above = map_reflexive f; each = all_none (λ m. AtMost m.1 (measure_at f m.0)); least = λ h above each. above }

-- the new measure is at most the new map, and the new map at most each that is at least the old one and the measure
rises : (g g' h : List MeasureValue) (v : ℕ) (m : MeasureValue) (rose : Bool) → v < length g
    → MatchBool rose (IsBelow (measure_at g v) m × (g' ≡ slice_set g v m)) (AtMost m (measure_at g v) × (g' ≡ g))
    → AtMost m (measure_at g' v) × (MapAtMost g h → AtMost m (measure_at h v) → MapAtMost g' h)
rises g g' h v m true lt c = (
  rw (c.1, get_or-set_same g v m None lt) (at_most_same m),
  λ below most u. rw c.1 (elim (cases_eq u v) [
    | inl e ↦ rw (e, get_or-set_same g v m None lt) most
    | inr other ↦ rw (get_or-set_other g v u m None other) (below u)
  ]),
)
rises g g' h v m false lt c = (rw c.1 c.0, λ below most. rw c.1 below)

pub joins_more : (f g g' : List MeasureValue) (ms : List Measured) (v : ℕ) (m : MeasureValue) (rose : Bool) → Joins f ms g → v < length g
    → length g' ≡ length g → MapAtMost g g'
    → MatchBool rose (IsBelow (measure_at g v) m × (g' ≡ slice_set g v m)) (AtMost m (measure_at g v) × (g' ≡ g)) → Joins f (ms ++ (v, m) ∷ []) g'
joins_more f g g' ms v m rose j lt size above c = record {
  size = size ∙ j.size;
  above = map_transitive f g g' j.above above;
  each = All-push (λ n. AtMost n.1 (measure_at g' n.0)) ms (v, m) (all_map (λ n. AtMost n.1 (measure_at g n.0))
      (λ n. AtMost n.1 (measure_at g' n.0)) ms (λ n h. at_most_all n.1 (measure_at g n.0) (measure_at g' n.0) h (above n.0)) j.each)
      (rises g g' g' v m rose lt c).0;
  least = λ h over each.
      let parts = all_front (λ n. AtMost n.1 (measure_at h n.0)) ms (v, m) each in
      (rises g g' h v m rose lt c).1 (j.least h over parts.0) parts.1;
}
