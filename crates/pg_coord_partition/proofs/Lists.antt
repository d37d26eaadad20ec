-- Lists that were put together, or mapped.
use Rattle.std.proofs.Common.{◌+◌, ◌<◌, List, [], ◌∷◌, ◌++◌, length, map, subst, arith}
use Rattle.std.specs.Prelude.{All, AllPairs}
use Rattle.std.proofs.lemmas.List.{length-append, length-map, get_or-map, get_or-append-add}
use Rattle.std.proofs.Math.ListN.{get_or-append}

pub pairs_map : {X Y : Type 0} (R : Y → Y → Type 0) (f : X → Y) (xs : List X) → AllPairs (λ x y. R (f x) (f y)) xs → AllPairs R (map f xs)
pairs_map R f [] a = λ i j d lt l. absurd (omega arith)
pairs_map {X} {Y} R f (x ∷ xs) a = λ i j d lt l.
    let within : j < length (x ∷ xs) = omega (arith, length-map {B = Y} (x ∷ xs) f) in
    let before : i < length (x ∷ xs) = omega arith in
    rw (get_or-map {Y = Y} f (x ∷ xs) i x d before, get_or-map {Y = Y} f (x ∷ xs) j x d within) (a i j x lt within)

pub all_left : {X : Type 0} (P : X → Type 0) (xs ys : List X) → All P (xs ++ ys) → All P xs
all_left P xs ys a = λ i d lt. subst P (get_or-append xs ys d i lt) (a i d (omega (arith, length-append xs ys)))

pub all_right : {X : Type 0} (P : X → Type 0) (xs ys : List X) → All P (xs ++ ys) → All P ys
all_right P xs ys a = λ i d lt. subst P (get_or-append-add xs ys i d) (a (length xs + i) d (omega (arith, length-append xs ys)))

pub pairs_left : {X : Type 0} (R : X → X → Type 0) (xs ys : List X) → AllPairs R (xs ++ ys) → AllPairs R xs
pairs_left R xs ys a = λ i j d lt l.
    let before : i < length xs = omega arith in
    rw (← get_or-append xs ys d i before, ← get_or-append xs ys d j l) (a i j d lt (omega (arith, length-append xs ys)))

pub pairs_right : {X : Type 0} (R : X → X → Type 0) (xs ys : List X) → AllPairs R (xs ++ ys) → AllPairs R ys
pairs_right R xs ys a = λ i j d lt l.
    rw (← get_or-append-add xs ys i d, ← get_or-append-add xs ys j d) (a (length xs + i) (length xs + j) d (omega arith) (omega (arith, length-append xs ys)))
