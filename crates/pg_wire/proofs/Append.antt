-- Bytes that are appended one after the other.
use Rattle.pg_wire.proofs.Common.{◌≡◌, ℕ, ◌+◌, ◌<◌, ◌≤◌, List, [], ◌∷◌, ◌++◌, length, take, get_or, Option, Some, None, sym, ap, ◌∙◌}
use Rattle.pg_wire.proofs.Common.{append_assoc, arith, flat_map, append-nil, take_more, length-append, flat_map-cons, length-flat_map-take}
use Rattle.pg_wire.proofs.Common.{flat_map-append, Appends, HasBytes}

pub then : (a b c : Option (List ℕ)) (x y : List ℕ) → Appends a b x → Appends b c y → Appends a c (x ++ y)
then None b c x y p q = tt
then (Some xs) None c x y p q = absurd p
then (Some xs) (Some ys) None x y p q = absurd q
then (Some xs) (Some ys) (Some zs) x y p q = q ∙ ap (λ (t : List ℕ). t ++ y) p ∙ append_assoc xs x y

pub nothing : (a : Option (List ℕ)) → Appends a a []
nothing None = tt
nothing (Some xs) = sym (append-nil xs)

-- the spelling of one item more
pub spelled_behind : {T : Type 0} (spelled : T → List ℕ) (xs : List T) (x : T) → flat_map spelled (xs ++ x ∷ []) ≡ flat_map spelled xs ++ spelled x
spelled_behind spelled xs x = flat_map-append spelled xs (x ∷ []) ∙ ap (λ (t : List ℕ). flat_map spelled xs ++ t)
    (flat_map-cons spelled x [] ∙ append-nil (spelled x))

spelled_more : {T : Type 0} (spelled : T → List ℕ) (items : List T) (i : ℕ) (item : T) → i < length items → item ≡ get_or items i item
    → flat_map spelled (take (i + 1) items) ≡ flat_map spelled (take i items) ++ spelled item
spelled_more {T} spelled items i item lt e =
    ap (flat_map spelled) (take_more items i item lt ∙ ap (λ (t : T). take i items ++ t ∷ []) (sym e)) ∙ spelled_behind spelled (take i items) item

-- one item more
pub one_more : {T : Type 0} (spelled : T → List ℕ) (items : List T) (i : ℕ) (item : T) (a b c : Option (List ℕ)) → i < length items → item ≡ get_or items i item
    → Appends a b (flat_map spelled (take i items)) → Appends b c (spelled item) → Appends a c (flat_map spelled (take (i + 1) items))
one_more spelled items i item a b c lt e p q =
    rw (spelled_more spelled items i item lt e) (then a b c (flat_map spelled (take i items)) (spelled item) p q)

-- room for one item more
pub one_fits : {T : Type 0} (spelled : T → List ℕ) (items : List T) (i : ℕ) (item : T) (left left' room : ℕ) → i < length items → item ≡ get_or items i item
    → left + length (flat_map spelled (take i items)) ≡ room → left' + length (spelled item) ≡ left
    → left' + length (flat_map spelled (take (i + 1) items)) ≡ room
one_fits spelled items i item left left' room lt e p q =
    rw (spelled_more spelled items i item lt e) (omega (arith, length-append (flat_map spelled (take i items)) (spelled item)))

pub none_fits : {T : Type 0} (spelled : T → List ℕ) (items : List T) (i : ℕ) (item : T) (left room : ℕ) → i < length items → item ≡ get_or items i item
    → left + length (flat_map spelled (take i items)) ≡ room → left < length (spelled item) → room < length (flat_map spelled items)
none_fits {T} spelled items i item left room lt e p q =
    let all = length-flat_map-take spelled items i item lt in
    let same : length (spelled (get_or items i item)) ≡ length (spelled item) = ap (λ (t : T). length (spelled t)) (sym e) in
    omega arith

has_length : (bytes : List ℕ) → HasBytes bytes → 0 < length bytes
has_length [] h = absurd h
has_length (b ∷ bytes) h = omega arith

-- no more items than bytes
pub few : {T : Type 0} (spelled : T → List ℕ) (xs : List T) → ((x : T) → HasBytes (spelled x)) → length xs ≤ length (flat_map spelled xs)
few spelled [] some = omega arith
few spelled (x ∷ xs) some = omega (
  arith,
  has_length (spelled x) (some x),
  few spelled xs some,
  ap length (flat_map-cons spelled x xs),
  length-append (spelled x) (flat_map spelled xs),
)

pub one_of : {T : Type 0} (spelled : T → List ℕ) (items : List T) (i : ℕ) (item : T) (most : ℕ) → i < length items
    → item ≡ get_or items i item → length (flat_map spelled items) < most → length (spelled item) < most
one_of {T} spelled items i item most lt e p =
    let all = length-flat_map-take spelled items i item lt in
    let same : length (spelled (get_or items i item)) ≡ length (spelled item) = ap (λ (t : T). length (spelled t)) (sym e) in
    omega arith
