-- Lists: what holds of all elements of two, the greatest number, and tests.
use Rattle.std.proofs.Common.{◌≡◌, ◌≤◌, ◌<◌, ℕ, suc, max, Bool, true, false, ◌&&◌, List, [], ◌∷◌, ◌++◌, refl, arith}
use Rattle.std.specs.List.{fold, AllByRecursion}

pub both_true : (a b : Bool) → (a && b) ≡ true → (a ≡ true) × (b ≡ true)
both_true true b e = (refl, e)
both_true false b e = absurd cc

pub all_of_both : {X : Type 0} (P : X → Type 0) (xs ys : List X) → AllByRecursion P xs → AllByRecursion P ys → AllByRecursion P (xs ++ ys)
all_of_both P [] ys a b = b
all_of_both P (x ∷ xs) ys a b = (a.0, all_of_both P xs ys a.1 b)

pub all_of_first : {X : Type 0} (P : X → Type 0) (xs ys : List X) → AllByRecursion P (xs ++ ys) → AllByRecursion P xs
all_of_first P [] ys a = tt
all_of_first P (x ∷ xs) ys a = (a.0, all_of_first P xs ys a.1)

pub all_of_second : {X : Type 0} (P : X → Type 0) (xs ys : List X) → AllByRecursion P (xs ++ ys) → AllByRecursion P ys
all_of_second P [] ys a = a
all_of_second P (x ∷ xs) ys a = all_of_second P xs ys a.1

pub greatest_from : (a : ℕ) (ns : List ℕ) → a ≤ fold max a ns
greatest_from a [] = omega arith
greatest_from a (n ∷ ns) = omega (arith, greatest_from (max a n) ns)

pub all_counted : (a : ℕ) (ns : List ℕ) → AllByRecursion (λ (n : ℕ). n < suc (fold max a ns)) ns
all_counted a [] = tt
all_counted a (n ∷ ns) = (omega (arith, greatest_from (max a n) ns), all_counted (max a n) ns)
