-- One more gate.
use Rattle.pg_aiger.proofs.Common.{◌≡◌, ℕ, suc, ◌+◌, ◌*◌, ◌^◌, ◌<◌, ◌≤◌, inl, inr, Bool, true, false, ◌&&◌, List, [], ◌∷◌, ◌++◌, length}
use Rattle.pg_aiger.proofs.Common.{arith, refl, sym, subst, ap, ◌∙◌, length-append, max, min, cases_lt, Gate, AreGatesFrom, Valuation}
use Rattle.pg_aiger.proofs.Common.{value, Satisfies, IsDraft, Extends}

are_push : (gs : List Gate) (base : ℕ) (g : Gate) → AreGatesFrom base gs → g.lhs ≡ 2 * (base + length gs)
    → g.rhs0 < 2 * (base + length gs) → g.rhs1 ≤ g.rhs0 → AreGatesFrom base (gs ++ g ∷ [])
are_push [] base g are e l r = (omega arith, omega arith, r, tt)
are_push (h ∷ gs) base g are e l r = (are.0, are.1, are.2, are_push gs (suc base) g are.3 (omega arith) (omega arith) r)

satisfies_old : (gs : List Gate) (v : Valuation) (g : Gate) → Satisfies v (gs ++ g ∷ []) → Satisfies v gs
satisfies_old [] v g s = tt
satisfies_old (h ∷ gs) v g s = (s.0, satisfies_old gs v g s.1)

satisfies_last : (gs : List Gate) (v : Valuation) (g : Gate) → Satisfies v (gs ++ g ∷ []) → value v g.lhs ≡ (value v g.rhs0 && value v g.rhs1)
satisfies_last [] v g s = s.0
satisfies_last (h ∷ gs) v g s = satisfies_last gs v g s.1

pub pushed_draft : (base : ℕ) (old new : List Gate) (g : Gate) → IsDraft (record { base = base; gates = old }) → base + length old + 1 ≤ 2 ^ 30
    → new ≡ old ++ g ∷ [] → g.lhs ≡ 2 * (base + length old) → g.rhs0 < 2 * (base + length old) → g.rhs1 ≤ g.rhs0
    → IsDraft (record { base = base; gates = new })
pushed_draft base old new g is room e lit l r = subst (λ x. IsDraft (record { base = base; gates = x })) (sym e) (record {
  positive = is.positive;
  within = rw (length-append old (g ∷ [])) (omega arith);
  ordered = are_push old base g is.ordered lit l r;
})

pub pushed_extends : (base : ℕ) (old new : List Gate) (g : Gate) → new ≡ old ++ g ∷ []
    → Extends 1 (record { base = base; gates = old }) (record { base = base; gates = new })
pushed_extends base old new g e = subst (λ x. Extends 1 (record { base = base; gates = old }) (record { base = base; gates = x })) (sym e) (record {
  base = refl;
  kept = λ v s. satisfies_old old v g s;
  longer = rw (length-append old (g ∷ [])) (omega arith);
  shorter = rw (length-append old (g ∷ [])) (omega arith);
})

and_swap : (p q : Bool) → (p && q) ≡ (q && p)
and_swap true true = refl
and_swap true false = refl
and_swap false true = refl
and_swap false false = refl

pub sorted_value : (v : Valuation) (x y : ℕ) → (value v (max x y) && value v (min x y)) ≡ (value v x && value v y)
sorted_value v x y = elim (cases_lt x y) [
  | inl l ↦
      let a : max x y ≡ y = omega arith in
      let b : min x y ≡ x = omega arith in rw (a, b) (and_swap (value v y) (value v x))
  | inr l ↦
      let a : max x y ≡ x = omega arith in
      let b : min x y ≡ y = omega arith in rw (a, b) refl
]

pub pushed_means : (old new : List Gate) (g : Gate) (x y l : ℕ) → new ≡ old ++ g ∷ []
    → g.rhs0 ≡ max x y → g.rhs1 ≡ min x y → g.lhs ≡ l
    → (v : Valuation) → Satisfies v new → value v l ≡ (value v x && value v y)
pushed_means old new g x y l e a b f v s =
    ap (value v) (sym f) ∙ satisfies_last old v g (subst (Satisfies v) e s)
    ∙ ap (λ i. value v i && value v g.rhs1) a ∙ ap (λ i. value v (max x y) && value v i) b ∙ sorted_value v x y
