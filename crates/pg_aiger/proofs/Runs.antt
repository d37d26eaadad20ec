-- A circuit in its order has one valuation for each step, and so one run.
use Rattle.pg_aiger.proofs.Common.{◌≡◌, ℕ, zero, suc, ◌+◌, ◌-◌, ◌<◌, ◌≤◌, inl, inr, Bool, true, false, cond, ltb, length, arith, refl, sym}
use Rattle.pg_aiger.proofs.Common.{subst, ap, ◌∙◌, cases_lt, lt-ltb, le-ltb, Circuit, IsNumbered, input_at, latch_at, Valuation, value, bit}
use Rattle.pg_aiger.proofs.Common.{Satisfies, IsRun, HasOneRun, IsStepAt, HasOneStep}
use Rattle.pg_aiger.proofs.Gates.{AgreeBelow, same_value, even_value, gates_agree, with_gates, with_below, with_satisfies}

abbrev pub first_gate : Circuit → ℕ
first_gate circuit = 1 + length circuit.inputs + length circuit.latches

-- every variable is below this
abbrev pub past_gates : Circuit → ℕ
past_gates circuit = first_gate circuit + length circuit.gates

pub of_input : (circuit : Circuit) (v : Valuation) (j : ℕ) → IsNumbered circuit → j < length circuit.inputs → value v (input_at circuit j) ≡ v (1 + j)
of_input circuit v j num l = ap (value v) (num.inputs j l) ∙ even_value v (j + 1) ∙ (let e : j + 1 ≡ 1 + j = omega arith in ap v e)

pub of_latch : (circuit : Circuit) (v : Valuation) (j : ℕ) → IsNumbered circuit → j < length circuit.latches
    → value v (latch_at circuit j).literal ≡ v (1 + length circuit.inputs + j)
of_latch circuit v j num l = ap (value v) (num.latches j l) ∙ even_value v (1 + length circuit.inputs + j)

-- valuations that agree on inputs and latches agree on all variables
pub same_step : (circuit : Circuit) (u v : Valuation) → IsNumbered circuit → u 0 ≡ false → v 0 ≡ false
    → ((j : ℕ) → j < length circuit.inputs → value u (input_at circuit j) ≡ value v (input_at circuit j))
    → ((j : ℕ) → j < length circuit.latches → value u (latch_at circuit j).literal ≡ value v (latch_at circuit j).literal)
    → Satisfies u circuit.gates → Satisfies v circuit.gates → AgreeBelow (past_gates circuit) u v
same_step circuit u v num a b inputs latches = gates_agree circuit.gates (first_gate circuit) u v num.gates below
  where
    below : AgreeBelow (first_gate circuit) u v
    below zero l = a ∙ sym b
    below (suc x) l = elim (cases_lt x (length circuit.inputs)) [
      | inl i ↦
          let e : 1 + x ≡ suc x = omega arith in
          subst (λ y. u y ≡ v y) e (sym (of_input circuit u x num i) ∙ inputs x i ∙ of_input circuit v x num i)
      | inr i ↦
          let j : ℕ = x - length circuit.inputs in
          let e : 1 + length circuit.inputs + (x - length circuit.inputs) ≡ suc x = omega arith in
          let k : (x - length circuit.inputs) < length circuit.latches = omega arith in
          subst (λ y. u y ≡ v y) e (sym (of_latch circuit u j num k) ∙ latches j k ∙ of_latch circuit v j num k)
    ]

-- the variables below the gates

pub seed : Circuit → ℕ → (ℕ → Bool) → Valuation
seed circuit letter state x =
    cond (ltb x 1) false (cond (ltb x (1 + length circuit.inputs)) (bit letter (x - 1))
    (state (x - (1 + length circuit.inputs))))

seed_zero : (circuit : Circuit) (letter : ℕ) (state : ℕ → Bool) → seed circuit letter state 0 ≡ false
unfolding seed
seed_zero circuit letter state = refl

seed_input : (circuit : Circuit) (letter : ℕ) (state : ℕ → Bool) (j : ℕ) → j < length circuit.inputs
    → seed circuit letter state (1 + j) ≡ bit letter j
unfolding seed
seed_input circuit letter state j h =
    let a : ltb (1 + j) 1 ≡ false = le-ltb (1 + j) 1 (omega arith) in
    let b : ltb (1 + j) (1 + length circuit.inputs) ≡ true = lt-ltb (1 + j) (1 + length circuit.inputs) (omega arith) in
    let c : (1 + j) - 1 ≡ j = omega arith in rw (a, b, c) refl

seed_latch : (circuit : Circuit) (letter : ℕ) (state : ℕ → Bool) (j : ℕ)
    → seed circuit letter state (1 + length circuit.inputs + j) ≡ state j
unfolding seed
seed_latch circuit letter state j =
    let a : ltb (1 + length circuit.inputs + j) 1 ≡ false = le-ltb (1 + length circuit.inputs + j) 1 (omega arith) in
    let b : ltb (1 + length circuit.inputs + j) (1 + length circuit.inputs) ≡ false =
    le-ltb (1 + length circuit.inputs + j) (1 + length circuit.inputs) (omega arith) in
    let c : (1 + length circuit.inputs + j) - (1 + length circuit.inputs) ≡ j = omega arith in rw (a, b, c) refl

-- one step: the gates over an input letter and the latches' values
pub stepped : Circuit → ℕ → (ℕ → Bool) → Valuation
stepped circuit letter state = with_gates (first_gate circuit) circuit.gates (seed circuit letter state)

stepped_below : (circuit : Circuit) (letter : ℕ) (state : ℕ → Bool) (x : ℕ) → x < first_gate circuit
    → stepped circuit letter state x ≡ seed circuit letter state x
unfolding stepped
stepped_below circuit letter state x h = with_below circuit.gates (first_gate circuit) (seed circuit letter state) x h

stepped_zero : (circuit : Circuit) (letter : ℕ) (state : ℕ → Bool) → stepped circuit letter state 0 ≡ false
stepped_zero circuit letter state = stepped_below circuit letter state 0 (omega arith) ∙ seed_zero circuit letter state

stepped_input : (circuit : Circuit) (letter : ℕ) (state : ℕ → Bool) (j : ℕ) → IsNumbered circuit → j < length circuit.inputs
    → value (stepped circuit letter state) (input_at circuit j) ≡ bit letter j
stepped_input circuit letter state j num h =
    of_input circuit (stepped circuit letter state) j num h
    ∙ stepped_below circuit letter state (1 + j) (omega arith) ∙ seed_input circuit letter state j h

stepped_latch : (circuit : Circuit) (letter : ℕ) (state : ℕ → Bool) (j : ℕ) → IsNumbered circuit → j < length circuit.latches
    → value (stepped circuit letter state) (latch_at circuit j).literal ≡ state j
stepped_latch circuit letter state j num h =
    of_latch circuit (stepped circuit letter state) j num h
    ∙ stepped_below circuit letter state (1 + length circuit.inputs + j) (omega arith) ∙ seed_latch circuit letter state j

stepped_gates : (circuit : Circuit) (letter : ℕ) (state : ℕ → Bool) → IsNumbered circuit → Satisfies (stepped circuit letter state) circuit.gates
unfolding stepped
stepped_gates circuit letter state num = with_satisfies circuit.gates (first_gate circuit) (seed circuit letter state) num.gates

pub the_step : (circuit : Circuit) (state letter : ℕ) → IsNumbered circuit → IsStepAt circuit state letter (stepped circuit letter (bit state))
the_step circuit state letter num = record {
  constant = stepped_zero circuit letter (bit state);
  inputs = λ j l. stepped_input circuit letter (bit state) j num l;
  latches = λ j l. stepped_latch circuit letter (bit state) j num l;
  gates = stepped_gates circuit letter (bit state) num;
}

pub one_valuation : (circuit : Circuit) (state letter : ℕ) (u v : Valuation) → IsNumbered circuit → IsStepAt circuit state letter u
    → IsStepAt circuit state letter v → AgreeBelow (past_gates circuit) u v
one_valuation circuit state letter u v num a b =
    same_step circuit u v num a.constant b.constant (λ j l. a.inputs j l ∙ sym (b.inputs j l)) (λ j l. a.latches j l ∙ sym (b.latches j l))
    a.gates b.gates

pub one_step : (circuit : Circuit) (state letter : ℕ) → IsNumbered circuit → HasOneStep circuit state letter
one_step circuit state letter num = record {
  some = (stepped circuit letter (bit state), the_step circuit state letter num);
  one = λ u v a b x le. one_valuation circuit state letter u v num a b x (let e = num.greatest in omega (arith, e, le));
}

-- the run

pub the_run : Circuit → (ℕ → ℕ) → ℕ → Valuation
the_run circuit input zero = stepped circuit (input 0) (λ j. false)
the_run circuit input (suc t) = stepped circuit (input (suc t)) (λ j. value (the_run circuit input t) (latch_at circuit j).next)

latched : Circuit → (ℕ → ℕ) → ℕ → ℕ → Bool
latched circuit input zero j = false
latched circuit input (suc t) j = value (the_run circuit input t) (latch_at circuit j).next

run_steps : (circuit : Circuit) (input : ℕ → ℕ) (t : ℕ) → the_run circuit input t ≡ stepped circuit (input t) (latched circuit input t)
unfolding the_run latched
run_steps circuit input zero = refl
run_steps circuit input (suc t) = refl

pub is_run : (circuit : Circuit) (input : ℕ → ℕ) → IsNumbered circuit → (count : ℕ) → IsRun circuit input count (the_run circuit input)
unfolding latched
is_run circuit input num count = record {
  constant = λ t h. ap (λ v. v 0) (run_steps circuit input t) ∙ stepped_zero circuit (input t) (latched circuit input t);
  inputs = λ t h j l. ap (λ v. value v (input_at circuit j)) (run_steps circuit input t)
      ∙ stepped_input circuit (input t) (latched circuit input t) j num l;
  first = λ j h l. ap (λ v. value v (latch_at circuit j).literal) (run_steps circuit input 0)
      ∙ stepped_latch circuit (input 0) (latched circuit input 0) j num l;
  later = λ t j h l. ap (λ v. value v (latch_at circuit j).literal) (run_steps circuit input (suc t))
      ∙ stepped_latch circuit (input (suc t)) (latched circuit input (suc t)) j num l;
  gates = λ t h. subst (λ v. Satisfies v circuit.gates) (sym (run_steps circuit input t))
      (stepped_gates circuit (input t) (latched circuit input t) num);
}

pub runs_agree : (circuit : Circuit) (input : ℕ → ℕ) → IsNumbered circuit → (shorter longer : ℕ) (first second : ℕ → Valuation) → shorter ≤ longer
    → IsRun circuit input shorter first → IsRun circuit input longer second → (t : ℕ) → t < shorter
    → AgreeBelow (past_gates circuit) (first t) (second t)
runs_agree circuit input num shorter longer first second le a b t h = agree t h (latches t h)
  where
    agree : (t : ℕ) → t < shorter
        → ((j : ℕ) → j < length circuit.latches → value (first t) (latch_at circuit j).literal ≡ value (second t) (latch_at circuit j).literal)
        → AgreeBelow (past_gates circuit) (first t) (second t)
    agree t h same =
        let h' : t < longer = omega arith in
        same_step circuit (first t) (second t) num (a.constant t h) (b.constant t h') (λ j l. a.inputs t h j l ∙ sym (b.inputs t h' j l)) same
        (a.gates t h) (b.gates t h')

    latches : (t : ℕ) → t < shorter → (j : ℕ) → j < length circuit.latches
        → value (first t) (latch_at circuit j).literal ≡ value (second t) (latch_at circuit j).literal
    latches zero h j l = a.first j h l ∙ sym (b.first j (omega arith) l)
    latches (suc t) h j l =
        let before : AgreeBelow (past_gates circuit) (first t) (second t) = agree t (omega arith) (latches t (omega arith)) in
        let n = num.nexts j l in
        let e = num.greatest in
        a.later t j h l
        ∙ same_value (past_gates circuit) (first t) (second t) (latch_at circuit j).next before (omega (arith, n, e))
        ∙ sym (b.later t j (omega arith) l)

pub has_one : (circuit : Circuit) (input : ℕ → ℕ) → IsNumbered circuit → HasOneRun circuit input
has_one circuit input num = record {
  some = λ count. (the_run circuit input, is_run circuit input num count);
  one = λ shorter longer first second le a b t x h l.
      runs_agree circuit input num shorter longer first second le a b t h x (let e = num.greatest in omega (arith, e, l));
}
