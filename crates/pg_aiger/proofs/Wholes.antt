-- Parts that make a circuit.
use Rattle.std.specs.Prelude.{Bool, true, false}
use Rattle.std.specs.Bool.{MatchBool}
use Rattle.pg_aiger.proofs.Common.{◌≡◌, ◌∙◌, ℕ, zero, suc, ◌+◌, ◌*◌, ◌^◌, ◌<◌, ◌≤◌, All, List, [], ◌∷◌, length, get_or, ap, subst, sym, arith}
use Rattle.pg_aiger.proofs.Common.{Gate, AreGatesFrom, IsNumbered, IsKept, latches_from, literals_from, viewed, get_or_default, no_latch}
use Rattle.pg_aiger.proofs.Made.{length_literals, length_latches, literal_at, latch_literal, latch_next}

abbrev pub no_gate : Gate
no_gate = record { lhs = 0; rhs0 = 0; rhs1 = 0 }

abbrev pub IsGateOf : ℕ → Gate → Type 0
IsGateOf literal gate = (gate.lhs ≡ literal) × (gate.rhs0 < literal) × (gate.rhs1 ≤ gate.rhs0)

pub gates_by_place : (gates : List Gate) (first : ℕ) → ((k : ℕ) → k < length gates → IsGateOf (2 * (first + k)) (get_or gates k no_gate))
    → AreGatesFrom first gates
gates_by_place [] first each = tt
gates_by_place (gate ∷ gates) first each =
    let here = each 0 (omega arith) in
    let at : 2 * (first + 0) ≡ 2 * first = omega arith in (
      here.0 ∙ at,
      omega (arith, here.1, at),
      here.2,
      gates_by_place gates (suc first) (λ k below.
          let next : 2 * (first + suc k) ≡ 2 * (suc first + k) = omega arith in
          subst (λ n. IsGateOf n (get_or gates k no_gate)) next (each (suc k) (omega arith))),
    )

pub gate_at_place : (gates : List Gate) (first k : ℕ) → k < length gates → AreGatesFrom first gates → IsGateOf (2 * (first + k)) (get_or gates k no_gate)
gate_at_place [] first k below are = absurd (omega arith)
gate_at_place (gate ∷ gates) first zero below are =
    let at : 2 * first ≡ 2 * (first + 0) = omega arith in subst (λ n. IsGateOf n gate) at (are.0, are.1, are.2)
gate_at_place (gate ∷ gates) first (suc k) below are =
    let at : 2 * (suc first + k) ≡ 2 * (first + suc k) = omega arith in
    subst (λ n. IsGateOf n (get_or gates k no_gate)) at (gate_at_place gates (suc first) k (omega arith) are.3)

pub whole : (inputs : ℕ) (nexts outputs : List ℕ) (gates : List Gate) → inputs ≤ 16 → length nexts ≤ 16 → length outputs ≤ 16
    → inputs + length nexts + length gates < 2 ^ 30 → AreGatesFrom (1 + inputs + length nexts) gates
    → All (λ literal. literal < 2 * (1 + inputs + length nexts + length gates)) nexts
    → All (λ literal. literal < 2 * (1 + inputs + length nexts + length gates)) outputs → IsKept inputs nexts outputs gates
whole inputs nexts outputs gates few_inputs few_latches few_outputs within are nexts_below outputs_below = record {
  few_inputs = few_inputs;
  few_latches = few_latches;
  few_outputs = few_outputs;
  within = within;
  numbered = record {
    greatest = omega (arith, ins, lats);
    inputs = λ j h. literal_at 1 inputs j (omega (arith, h, ins)) ∙ (omega arith);
    latches = λ j h. latch_literal (1 + inputs) nexts j (omega (arith, h, lats)) ∙ ap (λ i. 2 * (1 + i + j)) (sym ins);
    gates = subst (λ n. AreGatesFrom n gates) first are;
    nexts = λ j h.
        let l : j < length nexts = omega (arith, h, lats) in
        let e = latch_next (1 + inputs) nexts j l in
        let n = nexts_below j 0 l in omega (arith, e, n);
    outputs = λ j h.
        let n = outputs_below j 0 h in omega (arith, n);
  };
}
  where
    ins : length (literals_from 1 inputs) ≡ inputs
    ins = length_literals 1 inputs

    lats : length (latches_from (1 + inputs) nexts) ≡ length nexts
    lats = length_latches (1 + inputs) nexts

    first : 1 + inputs + length nexts ≡ 1 + length (literals_from 1 inputs) + length (latches_from (1 + inputs) nexts)
    first = omega (arith, ins, lats)

-- what is so of such parts
pub record AreSound (inputs : ℕ) (nexts outputs : List ℕ) (gates : List Gate) : Type 0 where
  pub gates_from : AreGatesFrom (1 + inputs + length nexts) gates
  pub nexts_below : All (λ literal. literal < 2 * (1 + inputs + length nexts + length gates)) nexts
  pub outputs_below : All (λ literal. literal < 2 * (1 + inputs + length nexts + length gates)) outputs

pub sound : (inputs : ℕ) (nexts outputs : List ℕ) (gates : List Gate) → IsKept inputs nexts outputs gates → AreSound inputs nexts outputs gates
sound inputs nexts outputs gates kept = record {
  gates_from = subst (λ n. AreGatesFrom n gates) first kept.numbered.gates;
  nexts_below = λ j d below.
      let l : j < length (latches_from (1 + inputs) nexts) = omega (arith, below, lats) in
      let e = latch_next (1 + inputs) nexts j below in
      let n = kept.numbered.nexts j l in
      let f = get_or_default nexts j 0 d below in omega (arith, e, n, f);
  outputs_below = λ j d below.
      let n = kept.numbered.outputs j below in
      let f = get_or_default outputs j 0 d below in omega (arith, n, f);
}
  where
    ins : length (literals_from 1 inputs) ≡ inputs
    ins = length_literals 1 inputs

    lats : length (latches_from (1 + inputs) nexts) ≡ length nexts
    lats = length_latches (1 + inputs) nexts

    first : 1 + length (literals_from 1 inputs) + length (latches_from (1 + inputs) nexts) ≡ 1 + inputs + length nexts
    first = omega (arith, ins, lats)

-- a test of one of two facts is one of the other
pub matched : (b : Bool) (P Q : Type 0) → (P → Q) → (Q → P) → MatchBool b P (P → ⊥) → MatchBool b Q (Q → ⊥)
matched true P Q to from h = to h
matched false P Q to from h = λ q. h (from q)
