-- Identifiers and counts fit in their types.
use Rattle.pg_synth.proofs.Common.{◌≡◌, ℕ, suc, ◌+◌, ◌*◌, ◌<◌, ◌≤◌, List, length, map, get_or, arith, ap, ◌∙◌, range_with_len}
use Rattle.pg_synth.proofs.Common.{length-map-range_with_len, get_or-map-range_with_len, mul-le-mul_left, mul-le-mul_right}
use Rattle.pg_synth.proofs.Common.{pow-le-pow_right, Automaton, IsAutomaton, letters, width, input_letters, output_letters, joined}
use Rattle.pg_synth.proofs.Common.{IsLayoutOf, Layout}
use Rattle.pg_synth.proofs.Letters.{few_inputs, few_input_letters, few_output_letters, sum_of_parts}

pub few_marks : (a : Automaton) → IsAutomaton a → length a.controllable ≤ 16
few_marks a is = omega (arith, is.marks, is.few_propositions)

pub few_answers : (a : Automaton) → IsAutomaton a → input_letters a ≤ 65536
few_answers a is = few_input_letters a.controllable (few_marks a is)

pub few_outputs_of : (a : Automaton) → IsAutomaton a → output_letters a ≤ 65536
few_outputs_of a is = few_output_letters a.controllable (few_marks a is)

inputs_below : (a : Automaton) → IsAutomaton a → input_letters a ≤ letters a
inputs_below a is = pow-le-pow_right {n = 2} (omega arith) (omega (arith, few_inputs a.controllable, is.marks))

-- the numbers of all states
wide : (a : Automaton) → IsAutomaton a → a.states * width a ≤ 300000000
wide a is =
    let one : a.states * (a.sets + 1) ≤ 65535 * (a.sets + 1) = mul-le-mul_right (a.sets + 1) is.few_states in
    let two : a.states * input_letters a ≤ a.states * letters a = mul-le-mul_left a.states (inputs_below a is) in
    let n = is.few_sets in
    let m = is.few_steps in
    let apart : a.states * width a ≡ a.states * (a.sets + 1) + a.states * input_letters a = grind arith in omega arith

pub small : (a : Automaton) (q : ℕ) → IsAutomaton a → q < a.states → q * width a + width a ≤ 300000000
small a q is lt =
    let one : suc q * width a ≤ a.states * width a = mul-le-mul_right (width a) lt in
    let apart : suc q * width a ≡ q * width a + width a = grind arith in omega (arith, wide a is)

-- the lengths of tables of letters
pub count : (f : ℕ → ℕ) (list : List ℕ) (n : ℕ) → list ≡ map f (range_with_len 0 n) → length list ≡ n
count f list n e = ap length e ∙ length-map-range_with_len f 0 n

pub entry : (f : ℕ → ℕ) (list : List ℕ) (n i d : ℕ) → list ≡ map f (range_with_len 0 n) → i < n → get_or list i d ≡ f i
entry f list n i d e lt = ap (λ (xs : List ℕ). get_or xs i d) e ∙ get_or-map-range_with_len f 0 n i i d lt (omega arith)

pub few_letters_of : (a : Automaton) → IsAutomaton a → letters a ≤ 65536
few_letters_of a is = pow-le-pow_right {n = 2} (omega arith) is.few_propositions

-- the parts that are looked up make up the letter
pub letter_is : (a : Automaton) (layout : Layout) (i k d e first second : ℕ) → IsLayoutOf a layout → i < input_letters a → k < output_letters a
    → d ≡ get_or layout.inputs.items i first → e ≡ get_or layout.outputs.items k second → d + e ≡ joined a.controllable i k
letter_is a layout i k d e first second laid li lk d_is e_is =
    let p = entry (λ i. joined a.controllable i 0) layout.inputs.items (input_letters a) i first laid.inputs li in
    let o = entry (λ o. joined a.controllable 0 o) layout.outputs.items (output_letters a) k second laid.outputs lk in
    omega (arith, d_is, e_is, p, o, sum_of_parts a.controllable i k)

-- the same in a loop over the outputs
pub letter_at : (a : Automaton) (layout : Layout) (outputs : List ℕ) (i k d : ℕ) → IsLayoutOf a layout → i < input_letters a
    → outputs ≡ layout.outputs.items → k < length outputs → d ≡ get_or layout.inputs.items i d → d + get_or outputs k 0 ≡ joined a.controllable i k
letter_at a layout outputs i k d laid li same lk d_is =
    let n = count (λ o. joined a.controllable 0 o) outputs (output_letters a) (same ∙ laid.outputs) in
    letter_is a layout i k d (get_or outputs k 0) d 0 laid li (omega arith) d_is (ap (λ (xs : List ℕ). get_or xs k 0) same)
