-- The run of a circuit goes through the product.
use Rattle.std.proofs.Common.{◌≡◌, ℕ, zero, suc, ◌/◌, ◌<◌, ◌≤◌, ◌^◌, ◌⊎◌, inl, inr, false, List, length, Option, Some, None}
use Rattle.std.proofs.Common.{arith, refl, sym, subst, ap, ◌∙◌}
use Rattle.std.specs.Prelude.{is_some}
use Rattle.std.proofs.lemmas.List.{length-map}
use Rattle.std.proofs.lemmas.Nat.{pow_pos}
use Rattle.pg_hoa_automaton.specs.Automata.{Step, Automaton, next}
use Rattle.pg_hoa_automaton.specs.Words.{step_from, step_at, target_of, sets_of, state_after}
use Rattle.pg_synth.specs.Letters.{joined, inputs}
use Rattle.pg_synth.specs.Machines.{IsInputWord}
use Rattle.pg_aiger.specs.declared.gate.Latch.{Latch}
use Rattle.pg_aiger.specs.Circuits.{Circuit}
use Rattle.pg_aiger.specs.Runs.{Valuation, value, bit, GoesOn, IsRun, IsWordOf, current, number_of}
use Rattle.pg_aiger_netlist.specs.Netlists.{HasOneRun}
use Rattle.pg_aiger.proofs.Steps.{circuit_goes_on}
use Rattle.pg_aiger.proofs.Follows.{current_at}
use Rattle.pg_aiger.proofs.Numbers.{number_is}
use Rattle.pg_verify.specs.Mirrors.Products.{Pair, pair_at, Leads, IsMove, IsProductOf}
use Rattle.pg_verify.proofs.Accepting.{RunsAlike}

-- a run over fewer input letters
shorter : (circuit : Circuit) (input : ℕ → ℕ) (count fewer : ℕ) (run : ℕ → Valuation) → fewer ≤ count → IsRun circuit input count run
    → IsRun circuit input fewer run
shorter circuit input count fewer run le r = record {
  constant = λ t h. r.constant t (omega arith);
  inputs = λ t h. r.inputs t (omega arith);
  first = λ j h l. r.first j (omega arith) l;
  later = λ t j h l. r.later t j (omega arith) l;
  gates = λ t h. r.gates t (omega arith);
}

no_bit : (j : ℕ) → false ≡ bit 0 j
no_bit j = let z : 0 / 2 ^ j ≡ 0 = grind arith in rw z refl

first_latches : (circuit : Circuit) (input : ℕ → ℕ) (count : ℕ) (run : ℕ → Valuation) → IsRun circuit input count run → 0 < count
    → number_of (run 0) (current circuit) ≡ 0
first_latches circuit input count run r h =
    number_is (run 0) (current circuit) 0 (pow_pos (length (current circuit))) (λ j l.
    let l' : j < length circuit.latches = (let n = length-map circuit.latches Latch.literal in omega (arith, n, l)) in
    ap (value (run 0)) (current_at circuit j l') ∙ r.first j h l' ∙ no_bit j)

-- After the first t letters the product is at its state k, and the automaton and each run of the circuit are where that says.
record AreAt (a : Automaton) (circuit : Circuit) (p : Automaton) (pairs : List Pair) (input word : ℕ → ℕ) (t k : ℕ) : Type 0 where
  number_in : k < length pairs
  of_product : state_after p input t ≡ Some k
  of_automaton : state_after a word t ≡ Some (pair_at pairs k).state
  latches : (count : ℕ) (run : ℕ → Valuation) → IsRun circuit input count run → t < count
      → number_of (run t) (current circuit) ≡ (pair_at pairs k).latches

-- or both have ended
abbrev AreTogether : Automaton → Circuit → Automaton → List Pair → (ℕ → ℕ) → (ℕ → ℕ) → ℕ → Type 0
AreTogether a circuit p pairs input word t =
    ((k : ℕ) × AreAt a circuit p pairs input word t k) ⊎ ((state_after p input t ≡ None) × (state_after a word t ≡ None))

-- they meet the same sets at step t, and are together after it
record GoTogether (a : Automaton) (circuit : Circuit) (p : Automaton) (pairs : List Pair) (input word : ℕ → ℕ) (t : ℕ) : Type 0 where
  met : sets_of (step_at p input t) ≡ sets_of (step_at a word t)
  then : AreTogether a circuit p pairs input word (suc t)

-- the letter at step t
word_at : (a : Automaton) (circuit : Circuit) (input word : ℕ → ℕ) (t output : ℕ) (run : ℕ → Valuation) → IsInputWord a input
    → length circuit.inputs ≡ inputs a.controllable → IsWordOf circuit a.controllable input word → IsRun circuit input (suc (suc t)) run
    → output ≡ number_of (run t) circuit.outputs → word t ≡ joined a.controllable (input t) output
word_at a circuit input word t output run inputs_in many words r e =
    let letter : number_of (run t) circuit.inputs ≡ input t =
    number_is (run t) circuit.inputs (input t) (subst (λ n. input t < 2 ^ n) (sym many) (inputs_in t)) (r.inputs t (omega arith)) in
    words t run (shorter circuit input (suc (suc t)) (suc t) run (omega arith) r)
    ∙ ap (λ i. joined a.controllable i (number_of (run t) circuit.outputs)) letter ∙ ap (joined a.controllable (input t)) (sym e)

go_on : (a : Automaton) (circuit : Circuit) (p : Automaton) (input word : ℕ → ℕ) (is : IsProductOf a circuit p) → IsInputWord a input
    → length circuit.inputs ≡ inputs a.controllable → HasOneRun circuit input → IsWordOf circuit a.controllable input word
    → (t k : ℕ) → AreAt a circuit p is.pairs input word t k → GoTogether a circuit p is.pairs input word t
go_on a circuit p input word is inputs_in many one words t k at =
    step_on (next a (pair_at is.pairs k).state (joined a.controllable (input t) move.output)) (next p k (input t)) automaton_step product_step move.leads
  where
    move : IsMove a circuit is.pairs k (input t) (next p k (input t))
    move = is.moves k (input t) at.number_in (inputs_in t)

    on : GoesOn circuit (pair_at is.pairs k).latches (input t) move.output move.latches
    on = circuit_goes_on circuit (pair_at is.pairs k).latches (input t) move.output move.latches move.gives

    run : ℕ → Valuation
    run = (one.some (suc (suc t))).0

    r : IsRun circuit input (suc (suc t)) run
    r = (one.some (suc (suc t))).1

    letter : word t ≡ joined a.controllable (input t) move.output
    letter = word_at a circuit input word t move.output run inputs_in many words r
        (on input (suc (suc t)) t run r (omega arith) (at.latches (suc (suc t)) run r (omega arith)) refl).0

    automaton_step : step_at a word t ≡ next a (pair_at is.pairs k).state (joined a.controllable (input t) move.output)
    automaton_step = ap (λ o. step_from a o (word t)) at.of_automaton ∙ ap (next a (pair_at is.pairs k).state) letter

    product_step : step_at p input t ≡ next p k (input t)
    product_step = ap (λ o. step_from p o (input t)) at.of_product

    step_on : (found made : Option Step) → step_at a word t ≡ found → step_at p input t ≡ made → Leads is.pairs move.latches found made
        → GoTogether a circuit p is.pairs input word t
    step_on None made e f h = record {
      met = ap sets_of (f ∙ h) ∙ sym (ap sets_of e);
      then = inr (ap target_of (f ∙ h), ap target_of e);
    }
    step_on (Some s) made e f (n, n_in, there, h) = record {
      met = ap sets_of (f ∙ h) ∙ sym (ap sets_of e);
      then = inl (
        n,
        record {
          number_in = n_in;
          of_product = ap target_of (f ∙ h);
          of_automaton = ap target_of e ∙ ap (λ (x : Pair). Some x.state) (sym there);
          latches = λ count run r lt.
              sym ((on input count t run r (omega arith) (at.latches count run r (omega arith)) refl).1 lt)
              ∙ ap (λ (x : Pair). x.latches) (sym there);
        },
      );
    }

together : (a : Automaton) (circuit : Circuit) (p : Automaton) (input word : ℕ → ℕ) (is : IsProductOf a circuit p) → IsInputWord a input
    → length circuit.inputs ≡ inputs a.controllable → HasOneRun circuit input → IsWordOf circuit a.controllable input word
    → (t : ℕ) → AreTogether a circuit p is.pairs input word t
together a circuit p input word is inputs_in many one words zero = inl (
  p.start,
  record {
    number_in = (let l = is.is_automaton.start_below in let c = is.count in omega (arith, l, c));
    of_product = refl;
    of_automaton = ap (λ (x : Pair). Some x.state) (sym is.start);
    latches = λ count run r lt. first_latches circuit input count run r lt ∙ ap (λ (x : Pair). x.latches) (sym is.start);
  },
)
together a circuit p input word is inputs_in many one words (suc t) = elim (together a circuit p input word is inputs_in many one words t) [
  | inl h ↦ (go_on a circuit p input word is inputs_in many one words t h.0 h.1).then
  | inr none ↦ inr (ap (λ o. target_of (step_from p o (input t))) none.0, ap (λ o. target_of (step_from a o (word t))) none.1)
]

pub runs_alike : (a : Automaton) (circuit : Circuit) (p : Automaton) (input word : ℕ → ℕ) → IsProductOf a circuit p → IsInputWord a input
    → length circuit.inputs ≡ inputs a.controllable → HasOneRun circuit input → IsWordOf circuit a.controllable input word
    → RunsAlike p a input word
runs_alike a circuit p input word is inputs_in many one words = record {
  sets = is.sets;
  met = λ t. elim (together a circuit p input word is inputs_in many one words t) [
    | inl h ↦ (go_on a circuit p input word is inputs_in many one words t h.0 h.1).met
    | inr none ↦ ap (λ o. sets_of (step_from p o (input t))) none.0 ∙ sym (ap (λ o. sets_of (step_from a o (word t))) none.1)
  ];
  goes_on = λ t. elim (together a circuit p input word is inputs_in many one words t) [
    | inl h ↦ ap is_some h.1.of_product ∙ sym (ap is_some h.1.of_automaton)
    | inr none ↦ ap is_some none.0 ∙ sym (ap is_some none.1)
  ];
}
