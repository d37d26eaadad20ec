-- Values of variables, one after another.
use Rattle.pg_aiger.proofs.Common.{◌≡◌, ℕ, zero, suc, ◌+◌, ◌*◌, ◌<◌, ◌≤◌, inl, inr, Bool, false, ◌&&◌, List, [], ◌∷◌, ◌++◌, length, map}
use Rattle.pg_aiger.proofs.Common.{get_or, length-append, arith, refl, sym, subst, ap, ◌∙◌, cases_lt, length-map, get_or_default}
use Rattle.pg_aiger.proofs.Common.{get_or-append, get_or-append_seam, Gate, Circuit, Latch, AreGatesFrom, IsNumbered, Valuation, value, bit}
use Rattle.pg_aiger.proofs.Common.{Satisfies, IsRun, IsStepAt, Steps, GoesOn, current, number_of, Agrees, IsValued, latches_from, viewed}
use Rattle.pg_aiger.proofs.Common.{All, get_or-map, latch_at, no_latch}
use Rattle.pg_aiger.specs.Runs.{nexts}
use Rattle.pg_aiger.proofs.Gates.{even_value}
use Rattle.pg_aiger.proofs.Numbers.{number_bit, number_same}
use Rattle.pg_aiger.proofs.Runs.{stepped, the_step}
use Rattle.pg_aiger.proofs.Follows.{current_at}
use Rattle.pg_aiger.proofs.Made.{length_literals, literal_at, length_latches, latch_literal, latch_next}

pub agree_push : (old new : List Bool) (b : Bool) (n : ℕ) (v : Valuation) → new ≡ old ++ b ∷ [] → length old ≡ n → Agrees old v → b ≡ v n → Agrees new v
agree_push old new b n v e len h last = subst (λ l. Agrees l v) (sym e) (λ x l. elim (cases_lt x (length old)) [
  | inl k ↦ get_or-append old (b ∷ []) false x k ∙ h x k
  | inr k ↦
      let l' : x < length old + 1 = rw (length-append old (b ∷ [])) at l in
      let f : x ≡ length old = omega arith in
      subst (λ y. get_or (old ++ b ∷ []) y false ≡ v y) (sym f) (get_or-append_seam old b [] false ∙ last ∙ ap v (sym len))
])

pub gate_bounds : (gates : List Gate) (base place : ℕ) (d : Gate) → place < length gates → AreGatesFrom base gates
    → ((get_or gates place d).rhs0 < 2 * (base + place)) × ((get_or gates place d).rhs1 < 2 * (base + place))
gate_bounds [] base place d l are = absurd (omega arith)
gate_bounds (g ∷ gs) base zero d l are =
    (let a : g.rhs0 < 2 * base = are.1 in omega arith, let a : g.rhs0 < 2 * base = are.1 in let b : g.rhs1 ≤ g.rhs0 = are.2 in omega arith)
gate_bounds (g ∷ gs) base (suc place) d l are =
    let h = gate_bounds gs (suc base) place d (omega arith) are.3 in (omega (arith, h.0), omega (arith, h.1))

pub gate_value : (gates : List Gate) (base place : ℕ) (v : Valuation) (d : Gate) → place < length gates → AreGatesFrom base gates → Satisfies v gates
    → (value v (get_or gates place d).rhs0 && value v (get_or gates place d).rhs1) ≡ v (base + place)
gate_value [] base place v d l are sat = absurd (omega arith)
gate_value (g ∷ gs) base zero v d l are sat =
    let z : base + 0 ≡ base = omega arith in sym sat.0 ∙ ap (value v) are.0 ∙ even_value v base ∙ ap v (sym z)
gate_value (g ∷ gs) base (suc place) v d l are sat =
    let z : suc base + place ≡ base + suc place = omega arith in
    gate_value gs (suc base) place v d (omega arith) are.3 sat.1 ∙ ap v z

-- a valuation of a step, by variables
pub valued : (inputs : ℕ) (ns os : List ℕ) (gates : List Gate) (state letter : ℕ) (v : Valuation)
    → IsStepAt (viewed inputs ns os gates) state letter v → IsValued inputs (length ns) gates state letter v
valued inputs ns os gates state letter v is = record {
  constant = is.constant;
  inputs_have = λ j h.
      sym (even_value v (1 + j)) ∙ ap (value v) (sym (literal_at 1 inputs j h)) ∙ is.inputs j (omega (arith, h, length_literals 1 inputs));
  latches_have = λ j h.
      sym (even_value v (1 + inputs + j)) ∙ ap (value v) (sym (latch_literal (1 + inputs) ns j h))
      ∙ is.latches j (omega (arith, h, length_latches (1 + inputs) ns));
  gates_hold = is.gates;
}

pub nexts_back : (first : ℕ) (ns : List ℕ) → map Latch.next (latches_from first ns) ≡ ns
nexts_back first [] = refl
nexts_back first (n ∷ ns) = ap (λ rest. n ∷ rest) (nexts_back (suc first) ns)

pub nexts_in : (inputs : ℕ) (ns os : List ℕ) (gates : List Gate) → IsNumbered (viewed inputs ns os gates)
    → All (λ literal. literal < 2 * (1 + inputs + length ns + length gates)) ns
nexts_in inputs ns os gates num j d l =
    let l' : j < length (latches_from (1 + inputs) ns) = omega (arith, l, length_latches (1 + inputs) ns) in
    let small = num.nexts j l' in
    let same = latch_next (1 + inputs) ns j l in
    let any : get_or ns j d ≡ get_or ns j 0 = get_or_default ns j d 0 l in
    omega (arith, small, same, any)

-- in a run that comes to a state and an input letter, the valuation there is of that step
step_of_run : (circuit : Circuit) (state letter : ℕ) (input : ℕ → ℕ) (count t : ℕ) (run : ℕ → Valuation) → IsRun circuit input count run → t < count
    → number_of (run t) (current circuit) ≡ state → input t ≡ letter → IsStepAt circuit state letter (run t)
step_of_run circuit state letter input count t run r l here comes = record {
  constant = r.constant t l;
  inputs = λ j h. r.inputs t l j h ∙ ap (λ n. bit n j) comes;
  latches = λ j h.
      ap (value (run t)) (sym (current_at circuit j h))
      ∙ number_bit (run t) (current circuit) j (let n = length-map circuit.latches Latch.literal in omega (arith, h, n))
      ∙ ap (λ n. bit n j) here;
  gates = r.gates t l;
}

next_at : (circuit : Circuit) (j : ℕ) → j < length circuit.latches → get_or (nexts circuit) j 0 ≡ (latch_at circuit j).next
next_at circuit j l = get_or-map Latch.next circuit.latches j no_latch 0 l

-- the latches of the step that follows are the literals that they take over
latches_follow : (circuit : Circuit) (input : ℕ → ℕ) (count t : ℕ) (run : ℕ → Valuation) → IsRun circuit input count run → suc t < count
    → number_of (run (suc t)) (current circuit) ≡ number_of (run t) (nexts circuit)
latches_follow circuit input count t run r l =
    let a = length-map circuit.latches Latch.literal in
    let b = length-map circuit.latches Latch.next in
    number_same (run (suc t)) (run t) (current circuit) (nexts circuit) (a ∙ sym b)
    (λ j h.
    let h' : j < length circuit.latches = omega (arith, h, a) in
    ap (value (run (suc t))) (current_at circuit j h') ∙ r.later t j l h' ∙ ap (value (run t)) (sym (next_at circuit j h')))

-- what is so in each valuation of a step is so in each run
pub circuit_goes_on : (circuit : Circuit) (state letter output next : ℕ)
    → ((v : Valuation) → IsStepAt circuit state letter v → (output ≡ number_of v circuit.outputs) × (next ≡ number_of v (nexts circuit)))
    → GoesOn circuit state letter output next
circuit_goes_on circuit state letter output next each input count t run r l here comes =
    let both = each (run t) (step_of_run circuit state letter input count t run r l here comes) in
    (both.0, λ more. both.1 ∙ sym (latches_follow circuit input count t run r more))

-- what is so in each valuation of the step is the step
pub steps_are : (inputs : ℕ) (ns os : List ℕ) (gates : List Gate) (state letter output next : ℕ) → IsNumbered (viewed inputs ns os gates)
    → ((v : Valuation) → IsStepAt (viewed inputs ns os gates) state letter v → (output ≡ number_of v os) × (next ≡ number_of v ns))
    → Steps (viewed inputs ns os gates) state letter output next
steps_are inputs ns os gates state letter output next num each =
    let circuit = viewed inputs ns os gates in
    let v : Valuation = stepped circuit letter (bit state) in
    let step : IsStepAt circuit state letter v = the_step circuit state letter num in record {
      valuation = v;
      step = step;
      outputs = (each v step).0;
      nexts = (each v step).1 ∙ ap (number_of v) (sym (nexts_back (1 + inputs) ns));
    }

pub goes_on : (inputs : ℕ) (ns os : List ℕ) (gates : List Gate) (state letter output next : ℕ)
    → ((v : Valuation) → IsStepAt (viewed inputs ns os gates) state letter v → (output ≡ number_of v os) × (next ≡ number_of v ns))
    → GoesOn (viewed inputs ns os gates) state letter output next
goes_on inputs ns os gates state letter output next each =
    circuit_goes_on (viewed inputs ns os gates) state letter output next
    (λ v is. ((each v is).0, (each v is).1 ∙ ap (number_of v) (sym (nexts_back (1 + inputs) ns))))
