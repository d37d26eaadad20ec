-- Small circuits, and what the answers of `synth --small` say of endless words.
use Rattle.pg_cli_command.proofs.Common.{◌≡◌, ◌∙◌, ◌⊎◌, inl, inr, ℕ, suc, ◌+◌, ◌*◌, ◌%◌, ◌<◌, ◌≤◌, ◌++◌, List, length, get_or, ap, sym, subst, refl, arith}
use Rattle.pg_cli_command.proofs.Common.{Some, Fits, Automaton, Circuit, CircuitFollows, CircuitReadsBack, MachineAccepted, symbols_of, circuit_text, joined, inputs, outputs}
use Rattle.pg_aiger.specs.Circuits.{IsNumbered, input_at, output_at}
use Rattle.pg_aiger.specs.Laws.{OneRun}
use Rattle.pg_aiger.specs.Runs.{Valuation, value, number_of, letter_of, IsRun, IsWordOf, HasOneRun}
use Rattle.pg_aiger.proofs.Numbers.{number_same}
use Rattle.pg_synth.specs.Machines.{IsInputWord}
use Rattle.pg_verify.specs.Verdicts.{IsCorrect}
use Rattle.std.specs.Prelude.{Bool, ◌/◌}
use Rattle.pg_cli_command.specs.Measuring.{IsClosedMapOf}
use Rattle.pg_cli_command.specs.Synthesising.{realizable, IsRealized}
use Rattle.pg_cli_command.specs.Controllers.{CircuitAccepted, AcceptsRun, IsAcceptedWord}
use Rattle.pg_cli_command.specs.Small.{IsShaped, IsSmall, SmallAccepted}
use Rattle.pg_cli_command.specs.Mirrors.Small.{IsShapedAs}
use Rattle.pg_cli_command.proofs.Realized.{circuit_accepted}

-- valuations that are the same up to a variable give a literal of it the same value
same_value : (u v : Valuation) (most literal : ℕ) → literal < 2 * (most + 1) → ((x : ℕ) → x ≤ most → u x ≡ v x) → value u literal ≡ value v literal
same_value u v most literal below same =
    let within : literal / 2 ≤ most = omega arith in
    let one : u (literal / 2) ≡ v (literal / 2) = same (literal / 2) within in rw one refl

-- and a circuit the same letter
same_letter : (circuit : Circuit) (controllable : List Bool) (u v : Valuation) → IsNumbered circuit
    → ((x : ℕ) → x ≤ circuit.greatest → u x ≡ v x) → letter_of circuit controllable u ≡ letter_of circuit controllable v
same_letter circuit controllable u v is same =
    let ins : number_of u circuit.inputs ≡ number_of v circuit.inputs = number_same u v circuit.inputs circuit.inputs refl (λ j below.
    let at = is.inputs j below in
    let g = is.greatest in
    same_value u v circuit.greatest (input_at circuit j) (omega arith) same) in
    let outs : number_of u circuit.outputs ≡ number_of v circuit.outputs = number_same u v circuit.outputs circuit.outputs refl (λ j below.
    same_value u v circuit.greatest (output_at circuit j) (is.outputs j below) same) in
    ap (λ i. joined controllable i (number_of u circuit.outputs)) ins ∙ ap (joined controllable (number_of v circuit.inputs)) outs

-- the word of a circuit in its order
abbrev the_word : (circuit : Circuit) → List Bool → (letters : ℕ → ℕ) → HasOneRun circuit letters → ℕ → ℕ
the_word circuit controllable letters one t = letter_of circuit controllable ((one.some (suc t)).0 t)

word_of : (circuit : Circuit) (controllable : List Bool) (letters : ℕ → ℕ) (one : HasOneRun circuit letters) → IsNumbered circuit
    → IsWordOf circuit controllable letters (the_word circuit controllable letters one)
word_of circuit controllable letters one is t run of =
    same_letter circuit controllable ((one.some (suc t)).0 t) (run t) is (λ x within.
    one.one (suc t) (suc t) (one.some (suc t)).0 run (omega arith) (one.some (suc t)).1 of t x (omega arith) within)

small_run : OneRun → CircuitReadsBack → (letters : ℕ → ℕ) (input output : List ℕ) → IsSmall input output
    → (bytes : List ℕ) × (output ≡ realizable ++ bytes) × AcceptsRun input bytes letters
small_run one_run reads_back letters input output s =
    let a = s.automaton in
    let k = s.circuit in
    let one = one_run k letters s.shaped.numbered in
    let text = reads_back k a s.shaped.numbered s.shaped.within s.is_automaton s.shaped.inputs s.shaped.outputs in (
      circuit_text k a,
      s.printed,
      record {
        automaton = a;
        spelt = s.spelt;
        circuit = k;
        symbols = symbols_of a;
        text = text.0;
        one_circuit = λ other names spelt. (text.1 other names spelt).0;
        one_run = one;
        accepts = λ letters_in. record {
          word = the_word k a.controllable letters one;
          word_of = word_of k a.controllable letters one s.shaped.numbered;
          one = λ other is t. is t (one.some (suc t)).0 (one.some (suc t)).1;
          accepted = (s.correct letters letters_in).1 (the_word k a.controllable letters one) (word_of k a.controllable letters one s.shaped.numbered);
        };
      },
    )

pub small_accepted : OneRun → CircuitFollows → CircuitReadsBack → MachineAccepted → (letters : ℕ → ℕ) → SmallAccepted letters
small_accepted one_run follows reads_back accepted letters input output (inl s) = small_run one_run reads_back letters input output s
small_accepted one_run follows reads_back accepted letters input output (inr r) =
    circuit_accepted follows reads_back accepted letters input output r

-- ---- one circuit that is proposed

pub shaped_for : (a : Automaton) (plain circuit : Circuit) → Fits a (Some plain) → IsShapedAs plain circuit → IsShaped a circuit
shaped_for a plain circuit fits is =
    record { numbered = is.numbered; within = is.within; inputs = is.inputs ∙ fits.0; outputs = is.outputs ∙ fits.1 }
