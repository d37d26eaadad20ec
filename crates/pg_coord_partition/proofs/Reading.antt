-- Measures that are read from a frame, one after the other.
use Rattle.std.proofs.Common.{◌≡◌, ℕ, Bool, cond, List, [], ◌∷◌, Some, None, refl, sym, ap, ◌∙◌}
use Rattle.pg_measure.specs.Measures.{MeasureValue}
use Rattle.pg_wire.specs.declared.reader.ValuesReader.{ValuesReader}
use Rattle.pg_wire.specs.Left.{IsLeft, IsNext, row_of, is_top}
use Rattle.pg_wire.specs.Measured.{Measured}

-- the measure that a row has
abbrev pub in_row : Bool → List ℕ → MeasureValue
in_row top row = cond top None (Some row)

measure_is : (o : MeasureValue) (top : Bool) (row row' : List ℕ) → top ≡ is_top o → row' ≡ row_of o row → in_row top row' ≡ o
measure_is None top row row' t r = rw t refl
measure_is (Some list) top row row' t r = rw t (ap (λ (ns : List ℕ). Some ns) r)

-- the measure that was read is the first of those that were left
pub record First (back : List Measured) (r : ValuesReader) (n : ℕ) (m : MeasureValue) : Type 0 where
  pub rest : List Measured
  pub parts : back ≡ (n, m) ∷ rest
  pub left : IsLeft r rest

pub some_is : {A : Type 0} (x y : A) → Some x ≡ Some y → x ≡ y
some_is x y e = cc

pub first_is : (back : List Measured) (r : ValuesReader) (row row' : List ℕ) (n : ℕ) (top : Bool) → IsNext back r row row' (Some (n, top))
    → First back r n (in_row top row')
first_is [] r row row' n top h = absurd cc
first_is (m ∷ ms) r row row' n top h =
    let read : ℕ × Bool = (n, top) in
    let told : ℕ × Bool = (m.0, is_top m.1) in
    let same = some_is read told h.0 in
    let number : n ≡ m.0 = ap (λ (x : ℕ × Bool). x.0) same in
    let tag : top ≡ is_top m.1 = ap (λ (x : ℕ × Bool). x.1) same in
    let measure : in_row top row' ≡ m.1 = measure_is m.1 top row row' tag h.1 in
    record { rest = ms; parts = ap (λ (k : ℕ). (k, m.1) ∷ ms) (sym number) ∙ ap (λ (o : MeasureValue). (n, o) ∷ ms) (sym measure); left = h.2 }

pub none_left : (back : List Measured) (r : ValuesReader) (row row' : List ℕ) → IsNext back r row row' None → back ≡ []
none_left [] r row row' h = refl
none_left (m ∷ ms) r row row' h = absurd cc
