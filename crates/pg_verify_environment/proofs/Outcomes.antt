-- What the verdict on a counterpart says of the automaton.
use Rattle.std.proofs.Common.{◌≡◌, ℕ, suc, zero, ◌^◌, ◌<◌, inl, inr, Bool, true, false, List, [], ◌∷◌, length, get_or, None, arith, refl, sym, subst, ap, ◌∙◌}
use Rattle.std.specs.Prelude.{not, All, IsSome, is_some}
use Rattle.std.proofs.lemmas.Bool.{cases_lt}
use Rattle.std.proofs.lemmas.List.{get_or_past}
use Rattle.std.proofs.lemmas.Nat.{pow_pos}
use Rattle.pg_hoa_automaton.specs.Automata.{Automaton, IsAutomaton, letters}
use Rattle.pg_hoa_automaton.specs.Formulas.{Formula}
use Rattle.pg_hoa_automaton.specs.Shapes.{FitsShape}
use Rattle.pg_hoa_automaton.specs.Words.{IsWord, IsAccepted, state_after}
use Rattle.pg_synth.specs.Letters.{joined, inputs, outputs}
use Rattle.pg_synth.specs.AutomatonGames.{input_letters, output_letters}
use Rattle.pg_synth.specs.Machines.{IsInputWord}
use Rattle.pg_synth.proofs.Letters.{joined_in}
use Rattle.pg_aiger.specs.Circuits.{Circuit}
use Rattle.pg_aiger.specs.Runs.{IsWordOf, letter_of}
use Rattle.pg_aiger_netlist.specs.Netlists.{IsAcyclic}
use Rattle.pg_aiger_netlist.proofs.Runs.{has_one}
use Rattle.pg_verify.specs.Verdicts as verdicts
use Rattle.pg_verify.specs.Verdicts.{IsCorrect, IsRejected, IsStuck, lasso}
use Rattle.pg_verify.proofs.Verdicts.{the_word}
use Rattle.pg_verify_environment.specs.Counterparts.{exchanged, IsCounterpart}
use Rattle.pg_verify_environment.specs.Environments.{IsRefutation, IsAnswered}
use Rattle.pg_verify_environment.proofs.Together.{decides, twin_endless}

exchanged_inputs : (controllable : List Bool) → inputs (exchanged controllable) ≡ outputs controllable
exchanged_inputs [] = refl
exchanged_inputs (true ∷ rest) = ap suc (exchanged_inputs rest)
exchanged_inputs (false ∷ rest) = exchanged_inputs rest

-- the circuit's letters are the automaton's
word_in : (a c : Automaton) (circuit : Circuit) (input word : ℕ → ℕ) → IsAutomaton a → IsCounterpart a c → IsAcyclic circuit
    → IsWordOf circuit c.controllable input word → IsWord a word
word_in a c circuit input word is twin ac words t =
    let run = (has_one circuit input ac).some (suc t) in
    let at : word t ≡ letter_of circuit c.controllable (run.0 t) = words t run.0 run.1 in
    let many : length c.controllable ≡ length a.propositions = twin.is_automaton.marks ∙ ap length twin.propositions in
    subst (λ l. l < letters a) (sym at) (subst (λ n. letter_of circuit c.controllable (run.0 t) < 2 ^ n) many (joined_in c.controllable _ _))

same_word : (a c : Automaton) (circuit : Circuit) (input word : ℕ → ℕ) → IsCounterpart a c → IsWordOf circuit (exchanged a.controllable) input word
    → IsWordOf circuit c.controllable input word
same_word a c circuit input word twin words = subst (λ cs. IsWordOf circuit cs input word) (sym twin.controllable) words

many_letters : (a c : Automaton) → IsCounterpart a c → input_letters c ≡ output_letters a
many_letters a c twin = ap (λ (cs : List Bool). 2 ^ inputs cs) twin.controllable ∙ ap (λ n. 2 ^ n) (exchanged_inputs a.controllable)

pub refutes : (a c : Automaton) (condition other : Formula) (circuit : Circuit) → IsAutomaton a → IsCounterpart a c → IsAcyclic circuit
    → FitsShape condition a.sets a.shape → FitsShape other c.sets c.shape → IsCorrect c other circuit → IsRefutation a condition circuit
refutes a c condition other circuit is twin ac fits fits' correct answers answers_in =
    let on = correct answers (λ t. subst (λ n. answers t < n) (sym (many_letters a c twin)) (answers_in t)) in (
      on.0,
      λ word words.
          let words' = same_word a c circuit answers word twin words in
          (decides a c condition other word is twin fits fits' (word_in a c circuit answers word is twin ac words')).0 (on.1 word words'),
    )

pub answered : (a c : Automaton) (condition other : Formula) (circuit : Circuit) (stem loop : List ℕ) → IsAutomaton a → IsCounterpart a c
    → IsAcyclic circuit → FitsShape condition a.sets a.shape → FitsShape other c.sets c.shape → IsRejected c other circuit stem loop
    → IsAnswered a condition circuit stem loop
answered a c condition other circuit stem loop is twin ac fits fits' h = record {
  stem_in = subst (λ (n : ℕ). All (λ o. o < n) stem) (many_letters a c twin) h.stem_in;
  loop_in = subst (λ (n : ℕ). All (λ o. o < n) loop) (many_letters a c twin) h.loop_in;
  repeats = h.repeats;
  accepts = λ word words.
      let words' = same_word a c circuit (lasso stem loop) word twin words in
      (decides a c condition other word is twin fits fits' (word_in a c circuit (lasso stem loop) word is twin ac words')).1 (h.rejects word words');
}

-- no run of a counterpart is stuck
pub never_stuck : (a c : Automaton) (circuit : Circuit) (letters_of : List ℕ) → IsAutomaton a → IsCounterpart a c → IsAcyclic circuit
    → IsStuck c circuit letters_of → ⊥
never_stuck a c circuit letters_of is twin ac h =
    let w = the_word circuit c.controllable input ac in
    let none = h.stops input w.0 inputs_in (λ t lt. refl) w.1 in
    let some = twin_endless a c w.0 is twin (word_in a c circuit input w.0 is twin ac w.1) (length letters_of) in
    let e : false ≡ true = ap is_some (sym none) ∙ some in cc e
  where
    input : ℕ → ℕ
    input t = get_or letters_of t 0

    inputs_in : IsInputWord c input
    inputs_in t = elim (cases_lt t (length letters_of)) [
      | inl lt ↦ h.letters_in t 0 lt
      | inr past ↦ subst (λ x. x < input_letters c) (sym (get_or_past letters_of t 0 past)) (pow_pos (inputs c.controllable))
    ]
