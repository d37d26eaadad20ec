-- A right verdict accepts exactly the correct circuits.
use Rattle.std.proofs.Common.{◌≡◌, ℕ, suc, ◌/◌, ◌<◌, ◌≤◌, inl, inr, List, length, get_or, arith, refl, sym, subst, ap, ◌∙◌}
use Rattle.std.specs.Prelude.{Bool}
use Rattle.std.proofs.lemmas.Bool.{cases_lt}
use Rattle.std.proofs.lemmas.List.{get_or_past}
use Rattle.std.proofs.lemmas.Nat.{pow_pos}
use Rattle.pg_hoa_automaton.specs.Automata.{Automaton}
use Rattle.pg_hoa_automaton.specs.Formulas.{Formula}
use Rattle.pg_synth.specs.AutomatonGames.{input_letters}
use Rattle.pg_synth.specs.Letters.{joined, inputs}
use Rattle.pg_synth.specs.Machines.{IsInputWord}
use Rattle.pg_aiger.specs.Circuits.{Circuit}
use Rattle.pg_aiger_netlist.specs.Netlists.{IsAcyclic, HasOneRun, variable, known_by, definitions}
use Rattle.pg_aiger_netlist.proofs.Gates.{same_literal}
use Rattle.std.specs.List.{Contains}
use Rattle.std.proofs.lemmas.List.Elements.{Contains-get_or}
use Rattle.pg_aiger.specs.Runs.{Valuation, IsWordOf, letter_of, number_of}
use Rattle.pg_aiger.proofs.Numbers.{number_same}
use Rattle.pg_aiger_netlist.proofs.Runs.{has_one, used_output, defined_input}
use Rattle.pg_verify.specs.declared.verdict.CircuitVerdict.TheVariants.{Accepted, Rejected, Stuck}
use Rattle.pg_verify.specs.Laws.{VerdictsDecide}
use Rattle.pg_verify.specs.Verdicts.{IsCorrect, IsStuck, IsRejected, lasso}
use Rattle.pg_verify.proofs.Correct.{lasso_in}
use Rattle.pg_verify.proofs.Periodic.{long}

-- runs agree on literals of defined variables
same_numbers : (circuit : Circuit) (u v : Valuation) (literals : List ℕ) → ((x : ℕ) → Contains (known_by (definitions circuit)) x → u x ≡ v x)
    → ((l : ℕ) → Contains literals l → Contains (known_by (definitions circuit)) (variable l)) → number_of u literals ≡ number_of v literals
same_numbers circuit u v literals same within = number_same u v literals literals refl (λ j l.
    same_literal u v (get_or literals j 0) (same (variable (get_or literals j 0)) (within (get_or literals j 0) (Contains-get_or literals j 0 l))))

-- the word of a circuit
pub the_word : (circuit : Circuit) (controllable : List Bool) (input : ℕ → ℕ) → IsAcyclic circuit → (word : ℕ → ℕ) × IsWordOf circuit controllable input word
the_word circuit controllable input ac = (
  (λ t. letter_of circuit controllable ((one.some (suc t)).0 t)),
  λ t run r.
      let same : (x : ℕ) → Contains (known_by (definitions circuit)) x → (one.some (suc t)).0 t x ≡ run t x =
      λ x l. one.one (suc t) (suc t) (one.some (suc t)).0 run (omega arith) (one.some (suc t)).1 r t x (omega arith) l in
      let a = same_numbers circuit ((one.some (suc t)).0 t) (run t) circuit.inputs same (λ l c. defined_input circuit l c) in
      let b = same_numbers circuit ((one.some (suc t)).0 t) (run t) circuit.outputs same (λ l c. used_output circuit l ac c) in
      ap (λ i. joined controllable i (number_of ((one.some (suc t)).0 t) circuit.outputs)) a ∙ ap (joined controllable (number_of (run t) circuit.inputs)) b,
)
  where
    one : HasOneRun circuit input
    one = has_one circuit input ac

stuck_refutes : (a : Automaton) (condition : Formula) (circuit : Circuit) (letters_of : List ℕ) → IsAcyclic circuit → IsStuck a circuit letters_of
    → IsCorrect a condition circuit → ⊥
stuck_refutes a condition circuit letters_of num h correct =
    let w = the_word circuit a.controllable input num in
    let some = ((correct input inputs_in).1 w.0 w.1).endless (length letters_of) in
    let none = h.stops input w.0 inputs_in (λ t lt. refl) w.1 in
    cc (some, none)
  where
    input : ℕ → ℕ
    input t = get_or letters_of t 0

    inputs_in : IsInputWord a input
    inputs_in t = elim (cases_lt t (length letters_of)) [
      | inl lt ↦ h.letters_in t 0 lt
      | inr past ↦ subst (λ x. x < input_letters a) (sym (get_or_past letters_of t 0 past)) (pow_pos (inputs a.controllable))
    ]

rejected_refutes : (a : Automaton) (condition : Formula) (circuit : Circuit) (stem loop : List ℕ) → IsAcyclic circuit
    → IsRejected a condition circuit stem loop → IsCorrect a condition circuit → ⊥
rejected_refutes a condition circuit stem loop num h correct =
    let w = the_word circuit a.controllable (lasso stem loop) num in
    h.rejects w.0 w.1 ((correct (lasso stem loop) (lasso_in a stem loop h.stem_in h.loop_in (long loop h.repeats))).1 w.0 w.1)

pub decide : VerdictsDecide
decide a condition circuit Accepted num says = ((λ yes. says), (λ correct. tt))
decide a condition circuit (Stuck word) num says = ((λ no. absurd no), (λ correct. stuck_refutes a condition circuit word.items num says correct))
decide a condition circuit (Rejected stem loop) num says =
    ((λ no. absurd no), (λ correct. rejected_refutes a condition circuit stem.items loop.items num says correct))
