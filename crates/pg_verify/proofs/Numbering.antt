-- Rows that are the same, and the states that they stand for.
use Rattle.std.proofs.Common.{◌≡◌, ◌≢◌, ℕ, zero, suc, ◌+◌, ◌*◌, ◌<◌, Bool, true, false, eqb, refl, sym, ap, ◌∙◌, ◌&&◌, List, [], ◌∷◌, ◌++◌, length, get_or, map, Option, Some, arith, subst, inl, inr}
use Rattle.std.specs.Prelude.{AllPairs, slice_get, All, if◌then◌else◌}
use Rattle.std.specs.List.{IsDistinct, position, list_any}
use Rattle.std.specs.Cmp.Lexicographic.{pointwise}
use Rattle.std.specs.Cmp.{booleans_Decides}
use Rattle.std.proofs.Math.Bool.{beq}
use Rattle.std.proofs.lemmas.Bool.{and_parts, eq-eqb, eqb-true}
use Rattle.std.proofs.lemmas.List.{get_or-map, get_or_default, length-map, map_push}
use Rattle.std.proofs.lemmas.Option.{get_or_from_slice_get}
use Rattle.std.proofs.lemmas.List.Elements.{All-push}
use Rattle.std.proofs.lemmas.List.Quantifiers.{position-Some}
use Rattle.std.proofs.lemmas.Map.Keys.{apart_from_distinct}
use Rattle.indexmap.specs.IndexSet.{insert_key}
use Rattle.pg_verify.specs.declared.states.ProductState.{ProductState}
use Rattle.pg_verify.specs.contracts.states.ProductStatePartialEq.TheImpl as impl
use Rattle.pg_aiger_netlist.specs.Steps.{spelt}
use Rattle.pg_verify.specs.Mirrors.Products.{Pair, pair, pair_of, pair_at, AreWide, IsNumbered}

abbrev pub same : ProductState → ProductState → Bool
same = (impl.eq-value).it

same_bits : (xs ys : List Bool) → pointwise beq xs ys ≡ true → xs ≡ ys
same_bits [] [] e = refl
same_bits [] (y ∷ ys) e = absurd cc
same_bits (x ∷ xs) [] e = absurd cc
same_bits (x ∷ xs) (y ∷ ys) e =
    let both = and_parts (beq x y) (pointwise beq xs ys) e in
    let head : x ≡ y = (booleans_Decides x y).0 both.0 in
    let tail : xs ≡ ys = same_bits xs ys both.1 in cc

bits_same : (xs : List Bool) → pointwise beq xs xs ≡ true
bits_same [] = refl
bits_same (x ∷ xs) = let head : beq x x ≡ true = (booleans_Decides x x).1 refl in rw head (bits_same xs)

one_spelling : (xs ys : List Bool) → length xs ≡ length ys → spelt xs ≡ spelt ys → xs ≡ ys
one_spelling [] [] long e = refl
one_spelling [] (y ∷ ys) long e = absurd (omega arith)
one_spelling (x ∷ xs) [] long e = absurd (omega arith)
one_spelling (true ∷ xs) (true ∷ ys) long e = ap (λ l. true ∷ l) (one_spelling xs ys (omega arith) (omega arith))
one_spelling (false ∷ xs) (false ∷ ys) long e = ap (λ l. false ∷ l) (one_spelling xs ys (omega arith) (omega arith))
one_spelling (true ∷ xs) (false ∷ ys) long e = absurd (omega arith)
one_spelling (false ∷ xs) (true ∷ ys) long e = absurd (omega arith)

-- rows that are the same stand for one state
pub same_pair : (x y : ProductState) → same x y ≡ true → pair_of x ≡ pair_of y
same_pair x y e =
    let both = and_parts (pointwise beq x.latches.items y.latches.items) (eqb x.state y.state) e in
    let bits : spelt x.latches.items ≡ spelt y.latches.items = ap spelt (same_bits x.latches.items y.latches.items both.0) in
    let state : x.state ≡ y.state = eqb-true x.state y.state both.1 in
    ap (λ n. pair n x.state) bits ∙ ap (pair (spelt y.latches.items)) state

-- and rows of one state, with as many latches, are the same
pub pair_same : (x y : ProductState) → length x.latches.items ≡ length y.latches.items → pair_of x ≡ pair_of y → same x y ≡ true
pair_same x y long e =
    let bits : x.latches.items ≡ y.latches.items = one_spelling x.latches.items y.latches.items long (ap Pair.latches e) in
    let one : pointwise beq x.latches.items y.latches.items ≡ true = subst (λ l. pointwise beq x.latches.items l ≡ true) bits (bits_same x.latches.items) in
    let two : eqb x.state y.state ≡ true = eq-eqb x.state y.state (ap Pair.state e) in
    rw (one, two) refl

distinct_by : (rows : List ProductState) (width : ℕ) (none : ProductState) → IsDistinct same rows → AreWide width rows → AllPairs (λ x y. x ≢ y) (map pair_of rows)
distinct_by rows width none distinct wide i j d less below e =
    let n = length-map rows pair_of in
    let j_in : j < length rows = omega arith in
    let i_in : i < length rows = omega arith in
    let yes = pair_same (get_or rows i none) (get_or rows j none) (wide i none i_in ∙ sym (wide j none j_in))
    (sym (get_or-map pair_of rows i none d i_in) ∙ e ∙ get_or-map pair_of rows j none d j_in) in
    let no = apart_from_distinct same rows i j none distinct less j_in in
    let wrong : true ≡ false = sym yes ∙ no in cc wrong

-- rows of one width that differ stand for states that differ
pub distinct_pairs : (rows : List ProductState) (width : ℕ) → IsDistinct same rows → AreWide width rows → AllPairs (λ x y. x ≢ y) (map pair_of rows)
distinct_pairs [] width distinct wide = λ i j d less below e. absurd (omega arith)
distinct_pairs (row ∷ rows) width distinct wide = distinct_by (row ∷ rows) width row distinct wide

-- a row that is found
pub found : (rows : List ProductState) (row : ProductState) (number : ℕ) → Some number ≡ position (same row) rows
    → IsNumbered (map pair_of rows) (spelt row.latches.items) row.state number (map pair_of rows)
found rows row number e =
    let at = position-Some (same row) rows number row (sym e) in
    let n = length-map rows pair_of in
    record {
      grown = inl refl;
      number_in = (let below = at.0 in omega arith);
      there = get_or-map pair_of rows number row (pair 0 0) at.0 ∙ sym (same_pair row (get_or rows number row) at.1);
    }

-- a row that is put
pub put : (rows after : List ProductState) (row copy stored : ProductState) (number : ℕ) → pair_of copy ≡ pair_of row → after ≡ insert_key same rows copy
    → number < length after → slice_get after number ≡ Some stored → same copy stored ≡ true
    → IsNumbered (map pair_of rows) (spelt row.latches.items) row.state number (map pair_of after)
put rows after row copy stored number is keys below at alike = go (list_any (same copy) rows) refl
  where
    there : pair_at (map pair_of after) number ≡ pair_of row
    there = get_or-map pair_of after number stored (pair 0 0) below ∙ ap pair_of (get_or_from_slice_get after number stored stored at)
        ∙ sym (same_pair copy stored alike) ∙ is

    within : number < length (map pair_of after)
    within = let n = length-map after pair_of in omega arith

    go : (b : Bool) → list_any (same copy) rows ≡ b → IsNumbered (map pair_of rows) (spelt row.latches.items) row.state number (map pair_of after)
    go true e = record { grown = inl (ap (map pair_of) (keys ∙ rw e refl)); number_in = within; there = there }
    go false e = record {
      grown = inr (ap (map pair_of) (keys ∙ rw e refl) ∙ map_push pair_of rows copy ∙ ap (λ p. map pair_of rows ++ p ∷ []) is);
      number_in = within;
      there = there;
    }

pub put_wide : (rows after : List ProductState) (copy : ProductState) (width : ℕ) → length copy.latches.items ≡ width → AreWide width rows
    → after ≡ insert_key same rows copy → AreWide width after
put_wide rows after copy width long wide keys = go (list_any (same copy) rows) refl
  where
    go : (b : Bool) → list_any (same copy) rows ≡ b → AreWide width after
    go true e = subst (AreWide width) (sym (keys ∙ rw e refl)) wide
    go false e = subst (AreWide width) (sym (keys ∙ rw e refl)) (All-push (λ row. length row.latches.items ≡ width) rows copy wide long)
