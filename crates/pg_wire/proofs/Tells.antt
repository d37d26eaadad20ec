-- Each frame of measures is of one list of measures.
use Rattle.pg_wire.proofs.Common.{◌≡◌, ℕ, suc, ◌<◌, ◌≤◌, List, [], ◌∷◌, ◌++◌, map, get_or, Option, Some, None, refl, sym, ap, ◌∙◌, arith}
use Rattle.pg_wire.proofs.Common.{All, IfSome, option_map, AllPairs, length-map, All-map, flat_map-map, AllPairs-cons, Value, SparseValue}
use Rattle.pg_wire.proofs.Common.{Frame, ValueKind, Dense, Sparse, word, counted, value, sparse_value, body, IsCountable, IsComponents}
use Rattle.pg_wire.proofs.Common.{ArePlaces, IsSparseValue, IsWell, Measured, IsMeasured, nonzero, filled, dense_value}
use Rattle.pg_wire.proofs.Common.{sparse_form, told_values, told_sparse, spelled_as, kind_number, frame_of, TellsMeasures}
use Rattle.pg_wire.specs.declared.frame.Frame.TheVariants as frames
use Rattle.pg_wire.proofs.Orders.{pairs_head, pairs_tail}
use Rattle.pg_wire.proofs.Filling.{nonzero_filled, filled_nonzero, components_filled}

-- measures that a frame of this width can tell
pub record AreMeasures (width : ℕ) (ms : List Measured) : Type 0 where
  pub within : width ≤ 32768
  pub countable : IsCountable ms
  pub each : All (IsMeasured width) ms
  pub rising : AllPairs (λ x y. x.0 < y.0) ms

-- a frame of this kind
pub record IsOf (kind : ValueKind) (f : Frame) : Type 0 where
  pub width : ℕ
  pub list : List Measured
  pub measures : AreMeasures width list
  pub same : frame_of kind width list ≡ f

pairs_map : {A B : Type 0} (f : A → B) (R : B → B → Type 0) (xs : List A) → AllPairs (λ x y. R (f x) (f y)) xs → AllPairs R (map f xs)
pairs_map f R [] h = λ i j d lt within. absurd (omega arith)
pairs_map f R (x ∷ xs) h = AllPairs-cons R (f x) (map f xs) (All-map (R (f x)) f xs (pairs_head (λ y z. R (f y) (f z)) x xs h))
    (pairs_map f R xs (pairs_tail (λ y z. R (f y) (f z)) x xs h))

-- ---- there and back

dense_again : (vs : List Value) → map dense_value (told_values vs) ≡ vs
dense_again [] = refl
dense_again (v ∷ vs) = ap (λ (ws : List Value). v ∷ ws) (dense_again vs)

pub dense_told : (ms : List Measured) → told_values (map dense_value ms) ≡ ms
dense_told [] = refl
dense_told (m ∷ ms) = ap (λ (ns : List Measured). m ∷ ns) (dense_told ms)

places_again : (width : ℕ) (o : Option (List (ℕ × ℕ))) → IfSome o (ArePlaces width) → option_map nonzero (option_map (filled width) o) ≡ o
places_again width None h = refl
places_again width (Some ps) h = ap (λ (qs : List (ℕ × ℕ)). Some qs) (nonzero_filled width ps h)

sparse_again : (width : ℕ) (vs : List SparseValue) → All (IsSparseValue width) vs → map sparse_form (told_sparse width vs) ≡ vs
sparse_again width [] h = refl
sparse_again width (v ∷ vs) h =
    ap (λ (o : Option (List (ℕ × ℕ))). record { vertex = v.vertex; pairs = o } ∷ map sparse_form (told_sparse width vs))
    (places_again width v.pairs (h 0 v (omega arith)).pairs)
    ∙ ap (λ (ws : List SparseValue). v ∷ ws) (sparse_again width vs (λ i d lt. h (suc i) d (omega arith)))

components_again : (width : ℕ) (o : Option (List ℕ)) → IfSome o (IsComponents width) → option_map (filled width) (option_map nonzero o) ≡ o
components_again width None h = refl
components_again width (Some ns) h = ap (λ (ms : List ℕ). Some ms) (filled_nonzero width ns h.size)

pub sparse_told : (width : ℕ) (ms : List Measured) → All (IsMeasured width) ms → told_sparse width (map sparse_form ms) ≡ ms
sparse_told width [] h = refl
sparse_told width (m ∷ ms) h =
    ap (λ (o : Option (List ℕ)). (m.0, o) ∷ told_sparse width (map sparse_form ms)) (components_again width m.1 (h 0 m (omega arith)).list)
    ∙ ap (λ (ns : List Measured). m ∷ ns) (sparse_told width ms (λ i d lt. h (suc i) d (omega arith)))

components_of : (width : ℕ) (o : Option (List (ℕ × ℕ))) → IfSome o (ArePlaces width) → IfSome (option_map (filled width) o) (IsComponents width)
components_of width None h = tt
components_of width (Some ps) h = components_filled width ps h

-- a well frame of this kind tells measures
pub measures_of : (kind : ValueKind) (f : Frame) (bytes : List ℕ) → IsWell f → (kind_number kind ∷ bytes) ≡ body f → IsOf kind f
measures_of Dense (frames.Values v) bytes well e = record {
  width = v.width;
  list = told_values v.values;
  measures = record {
    within = well.width;
    countable = rw length-map well.countable;
    each = All-map (IsMeasured v.width) (λ (x : Value). (x.vertex, x.list)) v.values
        (λ i d lt. record { vertex = (well.values i d lt).vertex; list = (well.values i d lt).list });
    rising = pairs_map (λ (x : Value). (x.vertex, x.list)) (λ x y. x.0 < y.0) v.values well.rising;
  };
  same = ap (λ (vs : List Value). frames.Values (record { width = v.width; values = vs })) (dense_again v.values);
}
measures_of Sparse (frames.Sparse s) bytes well e = record {
  width = s.width;
  list = told_sparse s.width s.values;
  measures = record {
    within = well.width;
    countable = rw length-map well.countable;
    each = All-map (IsMeasured s.width) (λ (x : SparseValue). (x.vertex, option_map (filled s.width) x.pairs)) s.values
        (λ i d lt. record { vertex = (well.values i d lt).vertex; list = components_of s.width _ (well.values i d lt).pairs });
    rising = pairs_map (λ (x : SparseValue). (x.vertex, option_map (filled s.width) x.pairs)) (λ x y. x.0 < y.0) s.values well.rising;
  };
  same = ap (λ (vs : List SparseValue). frames.Sparse (record { width = s.width; values = vs })) (sparse_again s.width s.values well.values);
}
measures_of kind f bytes well e = absurd (omega (arith, ap (λ (bs : List ℕ). get_or bs 0 0) e))

pub body_is : (kind : ValueKind) (width : ℕ) (ms : List Measured)
    → body (frame_of kind width ms) ≡ kind_number kind ∷ (word width ++ counted (spelled_as kind) ms)
body_is Dense width ms = rw (flat_map-map value dense_value ms, length-map ms dense_value) refl
body_is Sparse width ms = rw (flat_map-map sparse_value sparse_form ms, length-map ms sparse_form) refl

pub kinded : (f : Frame) → TellsMeasures f → (kind : ValueKind) × (get_or (body f) 0 0 ≡ kind_number kind)
kinded (frames.Values v) tells = (Dense, refl)
kinded (frames.Sparse s) tells = (Sparse, refl)
kinded f tells = absurd tells

abbrev told_by : ℕ → Frame → List Measured
told_by width (frames.Values v) = told_values v.values
told_by width (frames.Sparse s) = told_sparse width s.values
told_by width f = []

pub one_list : (kind : ValueKind) (width : ℕ) (ms ns : List Measured) → All (IsMeasured width) ms → All (IsMeasured width) ns
    → frame_of kind width ms ≡ frame_of kind width ns → ms ≡ ns
one_list Dense width ms ns a b e = sym (dense_told ms) ∙ ap (told_by width) e ∙ dense_told ns
one_list Sparse width ms ns a b e = sym (sparse_told width ms a) ∙ ap (told_by width) e ∙ sparse_told width ns b
