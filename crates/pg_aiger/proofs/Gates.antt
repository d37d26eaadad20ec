-- Gates in order have one value each.
use Rattle.pg_aiger.proofs.Common.{◌≡◌, ℕ, suc, ◌+◌, ◌*◌, ◌/◌, ◌%◌, ◌<◌, inl, inr, true, false, cond, eqb, not, ◌&&◌, List, [], ◌∷◌, length}
use Rattle.pg_aiger.proofs.Common.{arith, refl, sym, subst, ap, ◌∙◌, cases_lt, eq-eqb, ne_eqb, Gate, AreGatesFrom, Valuation, value}
use Rattle.pg_aiger.proofs.Common.{Satisfies}

-- valuations that agree on the variables below `base`
abbrev pub AgreeBelow : ℕ → Valuation → Valuation → Type 0
AgreeBelow base u v = (x : ℕ) → x < base → u x ≡ v x

pub same_value : (base : ℕ) (u v : Valuation) (l : ℕ) → AgreeBelow base u v → l < 2 * base → value u l ≡ value v l
same_value base u v l agree h = ap (λ b. cond (eqb (l % 2) 1) (not b) b) (agree (l / 2) (omega arith))

pub even_value : (v : Valuation) (x : ℕ) → value v (2 * x) ≡ v x
even_value v x =
    let a : (2 * x) % 2 ≡ 0 = omega arith in
    let b : (2 * x) / 2 ≡ x = omega arith in rw (a, b) refl

pub more_below : (base : ℕ) (u v : Valuation) → AgreeBelow base u v → u base ≡ v base → AgreeBelow (suc base) u v
more_below base u v agree e x h = elim (cases_lt x base) [
  | inl l ↦ agree x l
  | inr l ↦ subst (λ y. u y ≡ v y) (let f : base ≡ x = omega arith in f) e
]

-- two valuations that satisfy the gates and agree below them agree on the gates
pub gates_agree : (gates : List Gate) (base : ℕ) (u v : Valuation) → AreGatesFrom base gates → AgreeBelow base u v
    → Satisfies u gates → Satisfies v gates → AgreeBelow (base + length gates) u v
gates_agree [] base u v are agree a b x h = agree x (omega arith)
gates_agree (g ∷ gs) base u v are agree a b x h =
    gates_agree gs (suc base) u v are.3 (more_below base u v agree here) a.1 b.1 x (omega arith)
  where
    of_literal : (w : Valuation) → value w g.lhs ≡ w base
    of_literal w = ap (value w) are.0 ∙ even_value w base

    left : value u g.rhs0 ≡ value v g.rhs0
    left = same_value base u v g.rhs0 agree are.1

    right : value u g.rhs1 ≡ value v g.rhs1
    right = same_value base u v g.rhs1 agree (let small = are.1 in let order = are.2 in omega (arith, small, order))

    here : u base ≡ v base
    here = sym (of_literal u) ∙ a.0 ∙ ap (λ p. p && value u g.rhs1) left ∙ ap (λ q. value v g.rhs0 && q) right ∙ sym b.0 ∙ of_literal v

-- the gates' values one after another
pub with_gates : ℕ → List Gate → Valuation → Valuation
with_gates base [] v = v
with_gates base (g ∷ gs) v = with_gates (suc base) gs (λ x. cond (eqb x base) (value v g.rhs0 && value v g.rhs1) (v x))

pub with_below : (gates : List Gate) (base : ℕ) (v : Valuation) → AgreeBelow base (with_gates base gates v) v
unfolding with_gates
with_below [] base v x h = refl
with_below (g ∷ gs) base v x h =
    with_below gs (suc base) (λ y. cond (eqb y base) (value v g.rhs0 && value v g.rhs1) (v y)) x (omega arith)
    ∙ (let ne : eqb x base ≡ false = ne_eqb x base (λ e. omega arith) in rw ne refl)

pub with_satisfies : (gates : List Gate) (base : ℕ) (v : Valuation) → AreGatesFrom base gates → Satisfies (with_gates base gates v) gates
unfolding with_gates
with_satisfies [] base v are = tt
with_satisfies (g ∷ gs) base v are = (here, with_satisfies gs (suc base) next are.3)
  where
    next : Valuation
    next x = cond (eqb x base) (value v g.rhs0 && value v g.rhs1) (v x)

    done : Valuation
    done = with_gates (suc base) gs next

    below : AgreeBelow base v done
    below x h = sym (with_below gs (suc base) next x (omega arith) ∙ (let ne : eqb x base ≡ false = ne_eqb x base (λ e. omega arith) in rw ne refl))

    at : done base ≡ (value v g.rhs0 && value v g.rhs1)
    at = with_below gs (suc base) next base (omega arith) ∙ (let e : eqb base base ≡ true = eq-eqb base base refl in rw e refl)

    here : value done g.lhs ≡ (value done g.rhs0 && value done g.rhs1)
    here = ap (value done) are.0 ∙ even_value done base ∙ at
        ∙ ap (λ p. p && value v g.rhs1) (same_value base v done g.rhs0 below are.1)
        ∙ ap (λ q. value done g.rhs0 && q)
        (same_value base v done g.rhs1 below (let small = are.1 in let order = are.2 in omega (arith, small, order)))
