-- What the output of `verify` says about a circuit and its runs.
use Rattle.std.specs.Prelude.{◌≡◌, ◌⊎◌, ◌↔◌, ℕ, Bool, List, ◌++◌, codes}
use Rattle.pg_hoa_automaton.specs.Automata.{Automaton}
use Rattle.pg_hoa_automaton.specs.Formulas.{Formula}
use Rattle.pg_aiger.specs.Circuits.{Circuit}
use Rattle.pg_verify.specs.Verdicts.{IsCorrect, IsStuck, IsRejected}
use Rattle.pg_cli_command.specs.Parts.{IsParted, AreApart}
use Rattle.pg_cli_command.specs.Verifying.{letter_lines, ArePaired, IsVerified}

abbrev pub accepted : List ℕ
accepted = codes "ACCEPTED\n"

-- The output is `STUCK` and a line for each of these input letters: whatever follows them, the automaton has no edge for the last letter
-- that the circuit makes from them.
pub record ShowsStuck (a : Automaton) (given tied : Circuit) (output : List ℕ) : Type 0 where
  pub letters : List ℕ
  pub printed : output ≡ codes "STUCK\n" ++ letter_lines given.inputs tied.inputs letters
  pub stuck : IsStuck a tied letters

-- The output is `REJECTED` and the lines of a lasso: on it the circuit makes a word that the automaton doesn't accept.
pub record ShowsRejected (a : Automaton) (condition : Formula) (given tied : Circuit) (output : List ℕ) : Type 0 where
  pub stem : List ℕ
  pub loop : List ℕ
  pub printed : output ≡ codes "REJECTED\n" ++ (letter_lines given.inputs tied.inputs stem
      ++ (codes "loop\n" ++ letter_lines given.inputs tied.inputs loop))
  pub rejected : IsRejected a condition tied stem loop

-- The texts spell exactly one automaton and one circuit, whose inputs and outputs stand for the automaton's propositions. The output is
-- `ACCEPTED` exactly if the automaton accepts each run of the circuit. Otherwise it shows a run that the automaton doesn't accept.
pub record Decides (by_place : Bool) (first second output : List ℕ) : Type 0 where
  pub automaton : Automaton
  pub given : Circuit
  pub tied : Circuit
  pub paired : ArePaired (AreApart first second) by_place automaton given tied
  pub one_pair : (a : Automaton) (circuit other : Circuit) → ArePaired (AreApart first second) by_place a circuit other
      → (a ≡ automaton) × (circuit ≡ given) × (other ≡ tied)
  pub accepts : (output ≡ accepted) ↔ IsCorrect automaton paired.spelt.says.condition tied
  pub shows : (output ≡ accepted)
      ⊎ (ShowsStuck automaton given tied output ⊎ ShowsRejected automaton paired.spelt.says.condition given tied output)

-- this holds for each output of `verify`, whether its texts are in one input or each by itself
pub record VerifyDecides : Type 0 where
  pub joined : (by_place : Bool) (input output : List ℕ) → IsVerified (IsParted input) by_place output
      → (first : List ℕ) × (second : List ℕ) × IsParted input first second × Decides by_place first second output
  pub apart : (by_place : Bool) (first second output : List ℕ) → IsVerified (AreApart first second) by_place output
      → Decides by_place first second output
