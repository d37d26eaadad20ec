-- The run of a machine's circuit goes through the machine's states.
use Rattle.pg_aiger.proofs.Common.{◌≡◌, ℕ, zero, suc, ◌+◌, ◌*◌, ◌/◌, ◌%◌, ◌^◌, ◌<◌, ◌≤◌, Bool, false, cond, eqb, List, length, get_or}
use Rattle.pg_aiger.proofs.Common.{arith, refl, sym, subst, ap, ◌∙◌, mod-pow-add, mod-eq_of_lt, length-map, get_or-map, inputs, joined}
use Rattle.pg_aiger.proofs.Common.{Machine, IsMachine, machine_state, machine_output, machine_word, Circuit, Latch, no_latch, latch_at}
use Rattle.pg_aiger.proofs.Common.{Valuation, value, bit, IsRun, IsWordOf, current, number_of, IsWidth, RunsAs, IsCircuitOf, made_circuit}
use Rattle.pg_aiger.proofs.Common.{FollowsMachine, OneCircuit, number_at, IsAt, IsBuiltFor}
use Rattle.pg_aiger.proofs.Runs.{of_input, of_latch, has_one}
use Rattle.pg_aiger.proofs.Numbers.{number_is}
use Rattle.pg_aiger.proofs.Made.{one_width}

-- variables with the bits of a number spell it
spells_low : (v : Valuation) (first n count : ℕ) → ((j : ℕ) → j < count → v (first + j) ≡ bit n j) → number_at v first count ≡ n % 2 ^ count
spells_low v first n zero h = omega arith
spells_low v first n (suc count) h =
    let low : number_at v first count ≡ n % 2 ^ count = spells_low v first n count (λ j l. h j (omega arith)) in
    let b : n / 2 ^ count % 2 < 2 = omega arith in
    let f : suc count ≡ 1 + count = omega arith in
    let split : n % 2 ^ suc count ≡ (n / 2 ^ count % 2) * 2 ^ count + n % 2 ^ count = ap (λ i. n % 2 ^ i) f ∙ mod-pow-add n 1 count in
    ap (λ b. number_at v first count + cond b (2 ^ count) 0) (h count (omega arith))
    ∙ ap (λ x. x + cond (eqb (n / 2 ^ count % 2) 1) (2 ^ count) 0) low
    ∙ weigh (n % 2 ^ count) (2 ^ count) (n / 2 ^ count % 2) b ∙ sym split
  where
    weigh : (m p b : ℕ) → b < 2 → m + cond (eqb b 1) p 0 ≡ b * p + m
    weigh m p zero l = omega arith
    weigh m p (suc zero) l = omega arith
    weigh m p (suc (suc b)) l = absurd (omega arith)

spells : (v : Valuation) (first n count : ℕ) → n < 2 ^ count → ((j : ℕ) → j < count → v (first + j) ≡ bit n j) → number_at v first count ≡ n
spells v first n count lt h = spells_low v first n count h ∙ mod-eq_of_lt lt

no_bit : (j : ℕ) → false ≡ bit 0 j
no_bit j = let z : 0 / 2 ^ j ≡ 0 = grind arith in rw z refl

-- the literal of a latch among those of all
pub current_at : (circuit : Circuit) (j : ℕ) → j < length circuit.latches → get_or (current circuit) j 0 ≡ (latch_at circuit j).literal
current_at circuit j l = get_or-map Latch.literal circuit.latches j no_latch 0 l

-- In each run the latches have the bits of the machine's state, and the inputs those of the input letter.
pub record IsAtState (machine : Machine) (circuit : Circuit) (input : ℕ → ℕ) (v : Valuation) (t : ℕ) : Type 0 where
  pub at : IsAt machine.inputs (length circuit.latches) v (machine_state machine input t) (input t)
  pub latch_bits : (j : ℕ) → j < length circuit.latches → value v (latch_at circuit j).literal ≡ bit (machine_state machine input t) j

pub state_in : (machine : Machine) (input : ℕ → ℕ) (t : ℕ) → IsMachine machine → ((u : ℕ) → u < t → input u < 2 ^ machine.inputs)
    → machine_state machine input t < machine.states
state_in machine input zero is letters = is.has_start
state_in machine input (suc t) is letters =
    is.nexts_in (machine_state machine input t) (input t) (state_in machine input t is (λ u l. letters u (omega arith))) (letters t (omega arith))

pub at_state : (machine : Machine) (circuit : Circuit) (input : ℕ → ℕ) (count : ℕ) (run : ℕ → Valuation) → IsMachine machine
    → machine.states ≤ 2 ^ length circuit.latches → IsBuiltFor machine circuit → ((t : ℕ) → t < count → input t < 2 ^ machine.inputs)
    → IsRun circuit input count run → (t : ℕ) → t < count → IsAtState machine circuit input (run t) t
at_state machine circuit input count run is enough built letters r t h = record { at = (state_number t h, input_number t h); latch_bits = latch_bits t h }
  where
    in_states : (t : ℕ) → t < count → machine_state machine input t < machine.states
    in_states t h = state_in machine input t is (λ u l. letters u (omega arith))

    input_number : (t : ℕ) → t < count → number_at (run t) 1 machine.inputs ≡ input t
    input_number t h = spells (run t) 1 (input t) machine.inputs (letters t h) (λ j l.
        let i : j < length circuit.inputs = (let e = built.inputs in omega (arith, e)) in
        sym (of_input circuit (run t) j built.numbered i) ∙ r.inputs t h j i)

    spelt : (t : ℕ) → t < count
        → ((j : ℕ) → j < length circuit.latches → value (run t) (latch_at circuit j).literal ≡ bit (machine_state machine input t) j)
        → number_at (run t) (1 + machine.inputs) (length circuit.latches) ≡ machine_state machine input t
    spelt t h bits =
        spells (run t) (1 + machine.inputs) (machine_state machine input t) (length circuit.latches)
        (let s = in_states t h in omega (arith, s, enough))
        (λ j l. ap (λ i. run t (1 + i + j)) (sym built.inputs) ∙ sym (of_latch circuit (run t) j built.numbered l) ∙ bits j l)

    latch_bits : (t : ℕ) → t < count → (j : ℕ) → j < length circuit.latches
        → value (run t) (latch_at circuit j).literal ≡ bit (machine_state machine input t) j
    latch_bits zero h j l = r.first j h l ∙ no_bit j
    latch_bits (suc t) h j l =
        let h' : t < count = omega arith in
        r.later t j h l
        ∙ built.next_bits (run t) (machine_state machine input t) (input t) j (r.constant t h') (r.gates t h') (in_states t h') (letters t h')
        (spelt t h' (latch_bits t h'), input_number t h') l

    state_number : (t : ℕ) → t < count → number_at (run t) (1 + machine.inputs) (length circuit.latches) ≡ machine_state machine input t
    state_number t h = spelt t h (latch_bits t h)

pub runs_as : (machine : Machine) (circuit : Circuit) (input : ℕ → ℕ) (count : ℕ) (run : ℕ → Valuation) → IsMachine machine
    → machine.states ≤ 2 ^ length circuit.latches → IsBuiltFor machine circuit → ((t : ℕ) → t < count → input t < 2 ^ machine.inputs)
    → IsRun circuit input count run → RunsAs machine circuit input count run
runs_as machine circuit input count run is enough built letters r = record {
  letters = λ t h. number_is (run t) circuit.inputs (input t) (let l = letters t h in let e = built.inputs in subst (λ k. input t < 2 ^ k) (sym e) l)
      (λ j l. r.inputs t h j l);
  states = λ t h.
      let here = at_state machine circuit input count run is enough built letters r t h in
      let s = state_in machine input t is (λ u l. letters u (omega arith)) in
      let n : length (current circuit) ≡ length circuit.latches = length-map circuit.latches Latch.literal in
      number_is (run t) (current circuit) (machine_state machine input t)
      (subst (λ b. machine_state machine input t < 2 ^ b) (sym n) (omega (arith, s, enough)))
      (λ j l. let l' : j < length circuit.latches = omega (arith, n, l) in
      ap (value (run t)) (current_at circuit j l') ∙ here.latch_bits j l');
  outputs = λ t h.
      let here = at_state machine circuit input count run is enough built letters r t h in
      let s = state_in machine input t is (λ u l. letters u (omega arith)) in
      let o = is.outputs_in (machine_state machine input t) (input t) s (letters t h) in
      let e = built.outputs in
      number_is (run t) circuit.outputs (machine_output machine input t) (subst (λ m. machine_output machine input t < 2 ^ m) (sym e) o)
      (λ j l. built.output_bits (run t) (machine_state machine input t) (input t) j (r.constant t h) (r.gates t h) s (letters t h) here.at
      (omega (arith, e, l)));
}

pub circuit_of_machine : (machine : Machine) (circuit : Circuit) → IsMachine machine → IsWidth machine.states (length circuit.latches)
    → circuit.greatest ≤ 1073741823 → circuit ≡ made_circuit machine (length circuit.latches) → IsBuiltFor machine circuit
    → IsCircuitOf machine circuit
circuit_of_machine machine circuit is width within made built = record {
  numbered = built.numbered;
  within = within;
  inputs = built.inputs;
  outputs = built.outputs;
  latches = width;
  made = made;
  one_run = λ input. has_one circuit input built.numbered;
  runs_as = λ input count run letters r. runs_as machine circuit input count run is width.enough built letters r;
}

pub one_circuit : OneCircuit
one_circuit machine first second p q =
    let le = one_width machine.states (length first.latches) (length second.latches) p.latches q.latches in
    let ge = one_width machine.states (length second.latches) (length first.latches) q.latches p.latches in
    let same : length first.latches ≡ length second.latches = omega (arith, le, ge) in
    p.made ∙ ap (made_circuit machine) same ∙ sym q.made

pub circuit_follows : (controllable : List Bool) (machine : Machine) (circuit : Circuit) (input : ℕ → ℕ) → machine.inputs ≡ inputs controllable
    → IsCircuitOf machine circuit → ((t : ℕ) → input t < 2 ^ inputs controllable) → FollowsMachine controllable machine circuit input
circuit_follows controllable machine circuit input same is letters = record {
  one_run = is.one_run input;
  word = word_is;
  one_word = λ word words t. words t ((is.one_run input).some (suc t)).0 ((is.one_run input).some (suc t)).1
      ∙ sym (word_is t ((is.one_run input).some (suc t)).0 ((is.one_run input).some (suc t)).1);
}
  where
    word_is : IsWordOf circuit controllable input (machine_word controllable machine input)
    word_is t run r =
        let runs = is.runs_as input (suc t) run (λ u l. subst (λ k. input u < 2 ^ k) (sym same) (letters u)) r in
        ap (λ i. joined controllable i (machine_output machine input t)) (sym (runs.letters t (omega arith)))
        ∙ ap (joined controllable (number_of (run t) circuit.inputs)) (sym (runs.outputs t (omega arith)))
