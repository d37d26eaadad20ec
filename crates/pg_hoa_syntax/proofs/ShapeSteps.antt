-- How operations come apart.
use Rattle.pg_hoa_syntax.proofs.Common.{◌≡◌, ℕ, suc, zero, ◌-◌, ◌<◌, Bool, true, false, List, [], ◌∷◌, ◌++◌, Option, Some, None, refl, ap, ◌∙◌}
use Rattle.pg_hoa_syntax.proofs.Common.{arith, nat_tests, eqb-true, eq-eqb, ne_eqb, Op, Inf, Fin, Both, Either, limit_op, Shape, set_at}
use Rattle.pg_hoa_syntax.proofs.Common.{is_wanted, wanted_at, is_leaf, is_join, last_op, without_leaf, inner_at, only_leaf, passes, nests_at}
use Rattle.pg_hoa_syntax.proofs.Common.{some_is}
use Rattle.pg_hoa_syntax.proofs.Steps.{bind_some}

abbrev pub join_op : Bool → Op
join_op true = Either
join_op false = Both

-- ---- the last operation

pub last_pushed : (ops : List Op) (op : Op) → last_op (ops ++ (op ∷ [])) ≡ Some (ops, op)
last_pushed [] op = refl
last_pushed (a ∷ []) op = refl
last_pushed (a ∷ b ∷ ops) op = rw (last_pushed (b ∷ ops) op) refl

pub last_parts : (ops before : List Op) (op : Op) → last_op ops ≡ Some (before, op) → ops ≡ before ++ (op ∷ [])
last_parts [] before op e = absurd cc
last_parts (a ∷ []) before op e = ap (λ (x : List Op × Op). x.0 ++ (x.1 ∷ [])) (some_is ([], a) (before, op) e)
last_parts (a ∷ b ∷ ops) before op e =
    let p = bind_some (last_op (b ∷ ops)) (λ x. Some (a ∷ x.0, x.1)) (before, op) e in
    ap (λ (l : List Op). a ∷ l) (last_parts (b ∷ ops) p.0.0 p.0.1 p.1)
    ∙ ap (λ (x : List Op × Op). x.0 ++ (x.1 ∷ [])) (some_is (a ∷ p.0.0, p.0.1) (before, op) p.2)

-- ---- one leaf, one join

pub leaf_is : (wanted : Bool) (set : ℕ) (op : Op) → is_leaf wanted set op ≡ true → op ≡ limit_op wanted set
leaf_is true set (Inf s) e = ap Inf (eqb-true s set e)
leaf_is false set (Fin s) e = ap Fin (eqb-true s set e)
leaf_is wanted set op e = absurd cc

pub leaf_again : (wanted : Bool) (set : ℕ) → is_leaf wanted set (limit_op wanted set) ≡ true
leaf_again true set = eq-eqb set set refl
leaf_again false set = eq-eqb set set refl

pub leaf_other : (wanted good : Bool) (set other : ℕ) → (other ≡ set → ⊥) → is_leaf wanted set (limit_op good other) ≡ false
leaf_other true true set other differ = ne_eqb other set differ
leaf_other false false set other differ = ne_eqb other set differ
leaf_other true false set other differ = refl
leaf_other false true set other differ = refl

pub join_is : (wanted : Bool) (op : Op) → is_join wanted op ≡ true → op ≡ join_op wanted
join_is true Either e = refl
join_is false Both e = refl
join_is wanted op e = absurd cc

pub join_again : (wanted : Bool) → is_join wanted (join_op wanted) ≡ true
join_again true = refl
join_again false = refl

-- ---- a leaf beside the rest

abbrev pub leaf_first : Bool → ℕ → List Op → Bool
leaf_first wanted set [] = false
leaf_first wanted set (op ∷ ops) = is_leaf wanted set op

pub takes_behind : (wanted : Bool) (set : ℕ) (op : Op) (behind : List Op) → is_leaf wanted set op ≡ true
    → without_leaf wanted set (op ∷ behind) ≡ Some behind
unfolding without_leaf
takes_behind wanted set op behind e = rw e refl

pub takes_before : (wanted : Bool) (set : ℕ) (before : List Op) (op : Op) → leaf_first wanted set (before ++ (op ∷ [])) ≡ false
    → is_leaf wanted set op ≡ true → without_leaf wanted set (before ++ (op ∷ [])) ≡ Some before
unfolding without_leaf
takes_before wanted set [] op first e = absurd cc
takes_before wanted set (a ∷ before) op first e = rw (first, last_pushed (a ∷ before) op) (rw e refl)

pub takes_none : (wanted : Bool) (set : ℕ) (before : List Op) (op : Op) → leaf_first wanted set (before ++ (op ∷ [])) ≡ false
    → is_leaf wanted set op ≡ false → without_leaf wanted set (before ++ (op ∷ [])) ≡ None
unfolding without_leaf
takes_none wanted set [] op first e = rw first refl
takes_none wanted set (a ∷ before) op first e = rw (first, last_pushed (a ∷ before) op) (rw e refl)

pub inner_is : (wanted : Bool) (set : ℕ) (operands : List Op) (op : Op) → is_join wanted op ≡ true
    → inner_at wanted set (operands ++ (op ∷ [])) ≡ without_leaf wanted set operands
unfolding inner_at
inner_is wanted set operands op e = rw (last_pushed operands op) (rw e refl)

pub inner_none : (wanted : Bool) (set : ℕ) (operands : List Op) (op : Op) → is_join wanted op ≡ false
    → inner_at wanted set (operands ++ (op ∷ [])) ≡ None
unfolding inner_at
inner_none wanted set operands op e = rw (last_pushed operands op) (rw e refl)

-- ---- a turn of the loop

pub nests_innermost : (set : ℕ → ℕ) (wanted : ℕ → Bool) (inside : ℕ) (ops : List Op) → inside ≡ 0
    → nests_at set wanted inside ops ≡ only_leaf (wanted 0) (set 0) ops
unfolding nests_at
nests_innermost set wanted zero ops e = refl
nests_innermost set wanted (suc inside) ops e = absurd (omega arith)

pub nests_turn : (set : ℕ → ℕ) (wanted : ℕ → Bool) (inside : ℕ) (ops : List Op) → 0 < inside
    → nests_at set wanted inside ops ≡ passes (nests_at set wanted (inside - 1)) (inner_at (wanted inside) (set inside) ops)
unfolding nests_at
nests_turn set wanted zero ops h = absurd (omega arith)
nests_turn set wanted (suc inside) ops h = let same : suc inside - 1 ≡ inside = omega arith in rw same refl

-- the same for what the steps of a turn gave
pub fits_turn : (shape : Shape) (sets inside set : ℕ) (wanted : Bool) (ops : List Op) (inner : Option (List Op)) → 0 < inside
    → set ≡ set_at shape sets inside → wanted ≡ is_wanted shape set → inner ≡ inner_at wanted set ops
    → passes (nests_at (set_at shape sets) (wanted_at shape sets) (inside - 1)) inner ≡ nests_at (set_at shape sets) (wanted_at shape sets)
    inside ops
fits_turn shape sets inside set wanted ops inner h at good found =
    grind (arith, nat_tests, nests_turn (set_at shape sets) (wanted_at shape sets) inside ops h)

pub fits_innermost : (shape : Shape) (sets inside set : ℕ) (wanted : Bool) (ops : List Op) → inside ≡ 0 → set ≡ set_at shape sets 0
    → wanted ≡ is_wanted shape set → only_leaf wanted set ops ≡ nests_at (set_at shape sets) (wanted_at shape sets) inside ops
fits_innermost shape sets inside set wanted ops none at good =
    grind (arith, nat_tests, nests_innermost (set_at shape sets) (wanted_at shape sets) inside ops none)
