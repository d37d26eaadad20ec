-- One list of numbers among those of all replicas is changed.
use Rattle.pg_world.proofs.Common.{◌≡◌, ℕ, ◌+◌, ◌<◌, ◌≤◌, Bool, true, false, Some, List, [], ◌∷◌, ◌++◌, length, get_or, set, ap, sym, ◌∙◌}
use Rattle.pg_world.proofs.Common.{arith, subst, map, Option, IfSome, slice_get, vec_len, vec_capacity, if◌then◌else◌, Vec, Global, map-set}
use Rattle.pg_world.proofs.Common.{get_or-set_same, length-set, length-map, get_or-map, slice_get-get_or, map-set_same}

abbrev pub Numbers : Type 0
Numbers = Vec ℕ Global

abbrev pub items : Numbers → List ℕ
items t = t.items

-- a list with the same items in its place changes nothing
pub items_kept : (ts : List Numbers) (r : ℕ) (t d : Numbers) → t.items ≡ (get_or ts r d).items → map items (set ts r t) ≡ map items ts
items_kept ts r t d same = map-set_same items ts r t d same

-- the list in its place has room
pub place_kept : (ts : List Numbers) (r : ℕ) (t : Numbers) → r < length ts → vec_len t < vec_capacity t
    → IfSome (slice_get (set ts r t) r) (λ x. vec_len x < vec_capacity x)
place_kept ts r t l p =
    let within : r < length (set ts r t) = omega (arith, length-set ts r t) in
    let e : slice_get (set ts r t) r ≡ Some t = slice_get-get_or (set ts r t) r t within ∙ ap Some (get_or-set_same ts r t t l) in
    subst (λ (o : Option Numbers). IfSome o (λ x. vec_len x < vec_capacity x)) (sym e) p

pub place_of : (ts : List Numbers) (r : ℕ) (d : Numbers) → r < length ts → IfSome (slice_get ts r) (λ x. vec_len x < vec_capacity x)
    → vec_len (get_or ts r d) < vec_capacity (get_or ts r d)
place_of ts r d l p = subst (λ (o : Option Numbers). IfSome o (λ x. vec_len x < vec_capacity x)) (slice_get-get_or ts r d l) p

added : (b : Bool) (xs ys zs : List ℕ) → b ≡ true → zs ≡ (if b then xs else ys) → zs ≡ xs
added true xs ys zs e h = h
added false xs ys zs e h = absurd (cc)

-- a number was added to the list in its place
pub items_noted : (ts : List Numbers) (r n : ℕ) (t d : Numbers) (b : Bool) → r < length ts → d ≡ get_or ts r d → b ≡ true
    → t.items ≡ (if b then (d.items ++ n ∷ []) else d.items)
    → map items (set ts r t) ≡ set (map items ts) r (get_or (map items ts) r [] ++ n ∷ [])
items_noted ts r n t d b l here e h =
    let same : t.items ≡ d.items ++ n ∷ [] = added b (d.items ++ n ∷ []) d.items t.items e h in
    let was : get_or (map items ts) r [] ≡ d.items = get_or-map items ts r d [] l ∙ sym (ap items here) in
    map-set items ts r t ∙ ap (λ (x : List ℕ). set (map items ts) r x) (same ∙ ap (λ (x : List ℕ). x ++ n ∷ []) (sym was))

-- a number was put into the list in its place
pub items_set : (ts : List Numbers) (r v n : ℕ) (t d : Numbers) → r < length ts → d ≡ get_or ts r d → t.items ≡ set d.items v n
    → map items (set ts r t) ≡ set (map items ts) r (set (get_or (map items ts) r []) v n)
items_set ts r v n t d l here e =
    let was : get_or (map items ts) r [] ≡ d.items = get_or-map items ts r d [] l ∙ sym (ap items here) in
    map-set items ts r t ∙ ap (λ (x : List ℕ). set (map items ts) r x) (e ∙ ap (λ (x : List ℕ). set x v n) (sym was))

-- the list in a place
pub item_at : (ts : List Numbers) (r : ℕ) (t : Numbers) → r < length ts → t ≡ get_or ts r t → get_or (map items ts) r [] ≡ t.items
item_at ts r t l here = get_or-map items ts r t [] l ∙ ap items (sym here)

-- there is a list for each replica
pub has_place : (ts : List Numbers) (r n : ℕ) → length (map items ts) ≡ 1 + n → r ≤ n → r < length ts
has_place ts r n e l = omega (arith, length-map ts items)
