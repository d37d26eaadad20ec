-- Measures that fit can be told in a frame.
use Rattle.std.proofs.Common.{◌≡◌, ℕ, ◌<◌, ◌≤◌, List, [], ◌∷◌, length, map, get_or, Option, Some, None, refl, arith}
use Rattle.std.specs.Prelude.{All, IfSome}
use Rattle.std.specs.Option.{option_map}
use Rattle.std.specs.List.{AllPairs}
use Rattle.std.proofs.lemmas.List.{get_or-map, length-map}
use Rattle.std.proofs.lemmas.List.Elements.{All-cons, All-head, All-map, All-tail}
use Rattle.pg_measure.specs.Measures.{BoundList, MeasureValue, Fits, ListFits}
use Rattle.pg_measure.proofs.Rows.{same_length}
use Rattle.pg_wire.specs.declared.kind.ValueKind.{ValueKind}
use Rattle.pg_wire.specs.declared.kind.ValueKind.TheVariants.{Dense, Sparse}
use Rattle.pg_wire.specs.Well.{IsWord, IsComponents, ArePlaces, IsValue, IsSparseValue, IsWell}
use Rattle.pg_wire.specs.Measured.{Measured, frame_of, IsMeasured, dense_value, sparse_form, nonzero}
use Rattle.pg_wire.proofs.Filling.{places_nonzero}
use Rattle.pg_wire.proofs.Tells.{AreMeasures, dense_told, sparse_told}
use Rattle.pg_coord_partition.specs.Frames.{measures_in}

pub few_components : (bounds : BoundList) (m : MeasureValue) → Fits bounds m → length bounds ≤ 32768 → IfSome m (λ xs. length xs ≤ 32768)
few_components bounds None fits few = tt
few_components bounds (Some xs) fits few = omega (arith, same_length bounds xs fits)

words_fit : (bs : BoundList) (xs : List ℕ) → ListFits bs xs → All (λ (b : ℕ × ℕ). IsWord b.1) bs → All IsWord xs
words_fit bs [] fits w = λ i d lt. absurd (omega arith)
words_fit [] (x ∷ xs) fits w = absurd fits
words_fit (b ∷ bs) (x ∷ xs) fits w =
    let bound : IsWord b.1 = All-head (λ (c : ℕ × ℕ). IsWord c.1) b bs w in
    All-cons IsWord x xs (omega (arith, fits.0, bound)) (words_fit bs xs fits.1 (All-tail (λ (c : ℕ × ℕ). IsWord c.1) b bs w))

pub components_fit : (bs : BoundList) (m : MeasureValue) → Fits bs m → All (λ (b : ℕ × ℕ). IsWord b.1) bs → IfSome m (IsComponents (length bs))
components_fit bs None fits w = tt
components_fit bs (Some xs) fits w = record { size = same_length bs xs fits; numbers = words_fit bs xs fits w }

pub frame_tells : (kind : ValueKind) (width : ℕ) (ms : List Measured) → All (IsMeasured width) ms → measures_in (frame_of kind width ms) ≡ ms
frame_tells Dense width ms each = dense_told ms
frame_tells Sparse width ms each = sparse_told width ms each

-- ---- frames of measures are well

places_of : (width : ℕ) (o : Option (List ℕ)) → IfSome o (IsComponents width) → IfSome (option_map nonzero o) (ArePlaces width)
places_of width None h = tt
places_of width (Some ns) h = places_nonzero width ns h

-- vertices that rise in measures rise in the values of a frame too
vertices_rise : {B : Type 0} (f : Measured → B) (vertex : B → ℕ) (ms : List Measured) → ((m : Measured) → vertex (f m) ≡ m.0)
    → AllPairs (λ x y. x.0 < y.0) ms → AllPairs (λ x y. vertex x < vertex y) (map f ms)
vertices_rise f vertex ms same rising = λ i j d before below.
    let size = length-map ms f in
    let within : j < length ms = omega (arith, size, below) in
    let first = get_or-map f ms i (0, None) d (omega (arith, before, within)) in
    let second = get_or-map f ms j (0, None) d within in
    rw (first, second, same (get_or ms i (0, None)), same (get_or ms j (0, None))) (rising i j (0, None) before within)

pub well_of : (kind : ValueKind) (width : ℕ) (ms : List Measured) → AreMeasures width ms → IsWell (frame_of kind width ms)
well_of Dense width ms h = record {
  width = h.within;
  countable = rw length-map h.countable;
  values = All-map (IsValue width) dense_value ms (λ i d lt. record { vertex = (h.each i d lt).vertex; list = (h.each i d lt).list });
  rising = vertices_rise dense_value (λ v. v.vertex) ms (λ m. refl) h.rising;
}
well_of Sparse width ms h = record {
  width = h.within;
  countable = rw length-map h.countable;
  values = All-map (IsSparseValue width) sparse_form ms (λ i d lt. record { vertex = (h.each i d lt).vertex; pairs = places_of width _ (h.each i d lt).list });
  rising = vertices_rise sparse_form (λ v. v.vertex) ms (λ m. refl) h.rising;
}
