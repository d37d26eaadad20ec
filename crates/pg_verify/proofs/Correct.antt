-- What is found of the product is so of the circuit.
use Rattle.std.proofs.Common.{◌≡◌, ℕ, ◌+◌, ◌-◌, ◌%◌, ◌<◌, inl, inr, cond, List, length, Option, Some, None, arith, refl, sym, subst, ap, ◌∙◌}
use Rattle.std.proofs.Common.{get_or, lt-ltb, le-ltb}
use Rattle.std.proofs.lemmas.Bool.{cases_lt}
use Rattle.std.specs.Prelude.{All, is_some}
use Rattle.pg_hoa_automaton.specs.Automata.{Automaton}
use Rattle.pg_hoa_automaton.specs.Formulas.{Formula}
use Rattle.pg_hoa_automaton.specs.Shapes.{FitsShape}
use Rattle.pg_hoa_automaton.specs.declared.shape.Shape.{Shape}
use Rattle.pg_synth.specs.Letters.{inputs}
use Rattle.pg_aiger.specs.Circuits.{Circuit}
use Rattle.pg_aiger_netlist.specs.Netlists.{IsAcyclic}
use Rattle.pg_aiger_netlist.proofs.Runs.{has_one}
use Rattle.pg_verify.specs.Mirrors.Products.{IsProductOf}
use Rattle.pg_verify.specs.Mirrors.Lassos.{AcceptsEach, IsRefuted, IsDeadEnd}
use Rattle.pg_verify.specs.Verdicts.{IsCorrect, IsStuck, IsRejected, Says, lasso}
use Rattle.pg_verify.specs.Mirrors.Walks.{Shows}
use Rattle.pg_verify.specs.declared.verdict.CircuitVerdict.{CircuitVerdict}
use Rattle.pg_verify.specs.declared.verdict.CircuitVerdict.TheVariants.{Accepted, Rejected, Stuck}
use Rattle.pg_hoa_automaton.specs.Words.{state_after}
use Rattle.pg_synth.specs.AutomatonGames.{input_letters}
use Rattle.pg_synth.specs.Machines.{IsInputWord}
use Rattle.pg_verify.proofs.Accepting.{accepted_alike, alike_back}
use Rattle.pg_verify.proofs.Following.{runs_alike}
use Rattle.pg_verify.proofs.Periodic.{walked, long}

pub correct : (a : Automaton) (circuit : Circuit) (p : Automaton) (condition : Formula) → IsAcyclic circuit
    → length circuit.inputs ≡ inputs a.controllable → IsProductOf a circuit p → AcceptsEach p → FitsShape condition a.sets a.shape
    → IsCorrect a condition circuit
correct a circuit p condition num many is each fits input inputs_in =
    let one = has_one circuit input num in (
      one,
      λ word words. accepted_alike p a input word condition (runs_alike a circuit p input word is inputs_in many one words)
          (each condition
          (subst (λ (n : ℕ). FitsShape condition n p.shape) (sym is.sets) (subst (λ (s : Shape). FitsShape condition a.sets s) (sym is.shape) fits))
          input (λ t. subst (λ (n : ℕ). input t < n) (sym is.letters_are) (inputs_in t))),
    )

-- ---- counterexamples

read_in : (xs : List ℕ) (n k : ℕ) → All (λ i. i < n) xs → k < length xs → get_or xs k 0 < n
read_in xs n k all lt = all k 0 lt

pub lasso_in : (a : Automaton) (stem loop : List ℕ) → All (λ i. i < input_letters a) stem → All (λ i. i < input_letters a) loop → 0 < length loop
    → IsInputWord a (lasso stem loop)
lasso_in a stem loop s l some t = elim (cases_lt t (length stem)) [
  | inl early ↦
      subst (λ b. cond b (get_or stem t 0) (get_or loop ((t - length stem) % length loop) 0) < input_letters a) (sym (lt-ltb t (length stem) early))
      (read_in stem (input_letters a) t s early)
  | inr late ↦
      subst (λ b. cond b (get_or stem t 0) (get_or loop ((t - length stem) % length loop) 0) < input_letters a) (sym (le-ltb t (length stem) late))
      (read_in loop (input_letters a) ((t - length stem) % length loop) l (omega arith))
]

pub rejected : (a : Automaton) (circuit : Circuit) (p : Automaton) (condition : Formula) (stem loop : List ℕ) → IsAcyclic circuit
    → length circuit.inputs ≡ inputs a.controllable → IsProductOf a circuit p → IsRefuted p stem loop → FitsShape condition a.sets a.shape
    → IsRejected a condition circuit stem loop
rejected a circuit p condition stem loop num many is h fits = record {
  stem_in = stem_in;
  loop_in = loop_in;
  repeats = h.repeats;
  rejects = λ word words acc.
      h.rejects condition
      (subst (λ (n : ℕ). FitsShape condition n p.shape) (sym is.sets) (subst (λ (s : Shape). FitsShape condition a.sets s) (sym is.shape) fits))
      (accepted_alike a p word (lasso stem loop) condition
      (alike_back p a (lasso stem loop) word
      (runs_alike a circuit p (lasso stem loop) word is (lasso_in a stem loop stem_in loop_in (long loop h.repeats)) many
      (has_one circuit (lasso stem loop) num) words)) acc);
}
  where
    stem_in : All (λ i. i < input_letters a) stem
    stem_in = subst (λ (n : ℕ). All (λ i. i < n) stem) is.letters_are h.stem_in

    loop_in : All (λ i. i < input_letters a) loop
    loop_in = subst (λ (n : ℕ). All (λ i. i < n) loop) is.letters_are h.loop_in

none_if : (o : Option ℕ) → is_some {T = ℕ} None ≡ is_some o → o ≡ None
none_if None e = refl
none_if (Some x) e = absurd (cc e)

pub stuck : (a : Automaton) (circuit : Circuit) (p : Automaton) (word : List ℕ) → IsAcyclic circuit
    → length circuit.inputs ≡ inputs a.controllable → IsProductOf a circuit p → IsDeadEnd p word → IsStuck a circuit word
stuck a circuit p letters_of num many is h = record {
  letters_in = subst (λ (n : ℕ). All (λ i. i < n) letters_of) is.letters_are h.letters_in;
  stops = λ input word inputs_in follows words.
      let alike = runs_alike a circuit p input word is inputs_in many (has_one circuit input num) words in
      let z : (j : ℕ) → 0 + j ≡ j = λ j. omega arith in
      let ends : state_after p input (0 + length letters_of) ≡ None =
      walked p input 0 letters_of (λ j lt. ap input (z j) ∙ follows j lt) ∙ h.ends in
      let ends' : state_after p input (length letters_of) ≡ None = ap (state_after p input) (sym (z (length letters_of))) ∙ ends in
      none_if (state_after a word (length letters_of)) (sym (ap is_some ends') ∙ alike.goes_on (length letters_of));
}

-- what a product shows is so of the circuit
pub shown : (a : Automaton) (circuit : Circuit) (p : Automaton) (condition : Formula) (verdict : CircuitVerdict) → Shows p verdict → IsAcyclic circuit
    → length circuit.inputs ≡ inputs a.controllable → FitsShape condition a.sets a.shape → IsProductOf a circuit p → Says a condition circuit verdict
shown a circuit p condition Accepted h num many fits is = absurd h
shown a circuit p condition (Stuck word) h num many fits is = stuck a circuit p word.items num many is h
shown a circuit p condition (Rejected stem loop) h num many fits is = rejected a circuit p condition stem.items loop.items num many is h fits
