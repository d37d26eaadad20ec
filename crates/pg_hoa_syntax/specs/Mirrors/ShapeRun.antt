-- How the finder of shapes takes a condition's operations apart, the outermost set first.
use Rattle.std.specs.Prelude.{ℕ, suc, zero, ◌-◌, ◌==◌, Bool, true, false, List, [], ◌∷◌, Option, Some, None, if◌then◌else◌}
use Rattle.pg_hoa_syntax.specs.declared.formula.Op.{Op}
use Rattle.pg_hoa_syntax.specs.declared.formula.Op.TheVariants.{Yes, No, Inf, Fin, Both, Either}
use Rattle.pg_hoa_automaton.specs.declared.shape.Shape.{Shape}
use Rattle.pg_hoa_automaton.specs.declared.shape.Shape.TheVariants.{MaxEven, MaxOdd, MinEven, MinOdd, Always, Never}
use Rattle.pg_hoa_automaton.specs.Mirrors.Nests.{set_at, wanted_at}
use Rattle.pg_hoa_automaton.specs.Mirrors.Steps.{◌>>=◌}

-- `Inf` of the set if it is wanted, or `Fin` if it is not
abbrev pub is_leaf : Bool → ℕ → Op → Bool
is_leaf true set (Inf s) = s == set
is_leaf false set (Fin s) = s == set
is_leaf wanted set op = false

abbrev pub is_join : Bool → Op → Bool
is_join true Either = true
is_join false Both = true
is_join wanted op = false

abbrev pub last_op : List Op → Option (List Op × Op)
last_op [] = None
last_op (op ∷ []) = Some ([], op)
last_op (op ∷ more ∷ ops) = last_op (more ∷ ops) >>= λ x. Some (op ∷ x.0, x.1)

abbrev pub leaf_last : Bool → ℕ → List Op → Option (List Op)
leaf_last wanted set ops = last_op ops >>= λ x. if is_leaf wanted set x.1 then Some x.0 else None

-- two operands without the leaf
unfoldable pub without_leaf : Bool → ℕ → List Op → Option (List Op)
without_leaf wanted set [] = None
without_leaf wanted set (op ∷ ops) = if is_leaf wanted set op then Some ops else leaf_last wanted set (op ∷ ops)

unfoldable pub inner_at : Bool → ℕ → List Op → Option (List Op)
inner_at wanted set ops = last_op ops >>= λ x. if is_join wanted x.1 then without_leaf wanted set x.0 else None

abbrev pub only_leaf : Bool → ℕ → List Op → Bool
only_leaf wanted set (op ∷ []) = is_leaf wanted set op
only_leaf wanted set ops = false

abbrev pub passes : (List Op → Bool) → Option (List Op) → Bool
passes test None = false
passes test (Some ops) = test ops

-- each set in its place, down to the innermost
unfoldable pub nests_at : (ℕ → ℕ) → (ℕ → Bool) → ℕ → List Op → Bool
nests_at set wanted zero ops = only_leaf (wanted 0) (set 0) ops
nests_at set wanted (suc inside) ops = passes (nests_at set wanted inside) (inner_at (wanted (suc inside)) (set (suc inside)) ops)

unfoldable pub fits_at : Shape → ℕ → List Op → Bool
fits_at shape sets ops = nests_at (set_at shape sets) (wanted_at shape sets) (sets - 1) ops

abbrev pub constant_at : List Op → Option Shape
constant_at (Yes ∷ []) = Some Always
constant_at (No ∷ []) = Some Never
constant_at ops = None

abbrev pub nested_at : ℕ → List Op → Option Shape
nested_at sets ops =
    if fits_at MaxEven sets ops then Some MaxEven
    else (if fits_at MaxOdd sets ops then Some MaxOdd
    else (if fits_at MinEven sets ops then Some MinEven
    else (if fits_at MinOdd sets ops then Some MinOdd
    else None)))
